-- The files of definitions.
pub mod Plain
pub mod Sent

-- The files of definitions.
pub mod Signed

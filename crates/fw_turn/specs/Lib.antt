-- The files of definitions.
pub mod Turns

-- The files of definitions.
pub mod Executed

-- The files of definitions.
pub mod Whole
pub mod Runs

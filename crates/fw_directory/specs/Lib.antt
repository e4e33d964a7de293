-- The files of definitions.
pub mod Directories

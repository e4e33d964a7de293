-- The files of definitions.
pub mod Sizes

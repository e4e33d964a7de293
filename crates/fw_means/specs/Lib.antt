-- The files of definitions.
pub mod Means

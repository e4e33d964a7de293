-- The files of definitions.
pub mod Spelling
pub mod Fitting
pub mod Parts

-- The files of definitions.
pub mod Lengths

-- The files of definitions.
pub mod Tallies

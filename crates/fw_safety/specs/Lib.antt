-- The files of definitions.
pub mod Deeds

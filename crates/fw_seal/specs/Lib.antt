-- The files of definitions.
pub mod Seal

-- The files of definitions.
pub mod Counted

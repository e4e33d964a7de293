-- The files of definitions.
pub mod Doing

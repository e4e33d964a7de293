-- The files of definitions.
pub mod Quorum

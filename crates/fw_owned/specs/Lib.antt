-- The files of definitions.
pub mod Pieces

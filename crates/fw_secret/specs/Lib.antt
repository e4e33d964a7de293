-- The files of definitions.
pub mod Streams
pub mod Dealt
pub mod Pieces

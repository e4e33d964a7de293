-- The files of definitions.
pub mod Frames

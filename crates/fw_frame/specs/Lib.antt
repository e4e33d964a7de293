-- The files of definitions.
pub mod Frames
pub mod Plain
pub mod Spelling
pub mod Ranges
pub mod Parts
pub mod Gathered
pub mod Reading
pub mod Writing
pub mod Needing
pub mod Undoing
pub mod View

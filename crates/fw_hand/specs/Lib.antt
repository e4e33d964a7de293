-- The files of definitions.
pub mod Hands
pub mod Files
pub mod Reading

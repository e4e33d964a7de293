-- The files of definitions.
pub mod Records
pub mod Parts
pub mod Reading

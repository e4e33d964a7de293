-- The files of definitions.
pub mod Heard
pub mod Passed
pub mod Copies

-- The files of definitions.
pub mod Once
pub mod Facts
pub mod Ranges
pub mod Begun
pub mod Sources
pub mod Remembered
pub mod Sent

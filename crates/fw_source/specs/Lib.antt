-- The files of definitions.
pub mod Sources
pub mod Runs
pub mod Shown

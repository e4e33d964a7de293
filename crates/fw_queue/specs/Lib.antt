-- The files of definitions.
pub mod Backlogs

-- The files of definitions.
pub mod Histories

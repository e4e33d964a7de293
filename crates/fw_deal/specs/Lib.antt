-- The files of definitions.
pub mod Deals
pub mod Rows

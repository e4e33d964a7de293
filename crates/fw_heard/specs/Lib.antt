-- The files of definitions.
pub mod Changed

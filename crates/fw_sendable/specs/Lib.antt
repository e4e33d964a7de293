-- The files of definitions.
pub mod Rule

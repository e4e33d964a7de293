-- The files of definitions.
pub mod Fresh

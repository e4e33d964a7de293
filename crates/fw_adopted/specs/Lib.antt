-- The files of definitions.
pub mod Plans

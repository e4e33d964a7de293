-- The files of definitions.
pub mod Commands

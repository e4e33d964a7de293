-- The files of definitions.
pub mod Standing
pub mod Steps

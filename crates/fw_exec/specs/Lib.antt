-- The files of definitions.
pub mod Kept
pub mod Standing
pub mod Executors

-- The files of definitions.
pub mod Notes
pub mod Due
pub mod Room
pub mod Pooled
pub mod Counts

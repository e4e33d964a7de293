-- The files of lemmas.
pub mod Reading
pub mod Writing

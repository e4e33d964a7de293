-- The files of lemmas.
pub mod Bounds
pub mod Rows

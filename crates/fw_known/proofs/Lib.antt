-- The files of lemmas.
pub mod Counting

-- The files of lemmas.
pub mod Splicing

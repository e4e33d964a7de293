-- The files of lemmas.
pub mod Naming
pub mod Known

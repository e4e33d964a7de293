-- The files of lemmas.
pub mod Casting

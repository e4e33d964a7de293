-- The files of lemmas.
pub mod Turning

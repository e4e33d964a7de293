-- The files of lemmas.
pub mod Places

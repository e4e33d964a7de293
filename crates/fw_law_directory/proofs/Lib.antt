-- The files of lemmas.
pub mod OneDirectory

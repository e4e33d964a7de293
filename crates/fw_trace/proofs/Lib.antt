-- The files of lemmas.
pub mod Words
pub mod Rest

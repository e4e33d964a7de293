-- The files of lemmas.
pub mod Asked
pub mod Accepted

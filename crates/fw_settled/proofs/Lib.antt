-- The files of lemmas.
pub mod Queueing

-- The files of lemmas.
pub mod Sending
pub mod Waiting

-- The files of lemmas.
pub mod Best
pub mod Signed

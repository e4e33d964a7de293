-- The files of lemmas.
pub mod Places
pub mod Growing
pub mod Roomy
pub mod Counting

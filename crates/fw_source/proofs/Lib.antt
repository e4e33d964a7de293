-- The files of lemmas.
pub mod Source
pub mod Shown
pub mod Reached
pub mod Listed

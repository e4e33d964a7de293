-- The files of lemmas.
pub mod Fits
pub mod Dealt

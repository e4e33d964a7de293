-- The files of lemmas.
pub mod Dealt
pub mod Growing
pub mod Together

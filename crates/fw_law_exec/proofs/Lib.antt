-- The files of lemmas.
pub mod Kept
pub mod Folds
pub mod Turns
pub mod Inputs
pub mod Histories
pub mod Telling

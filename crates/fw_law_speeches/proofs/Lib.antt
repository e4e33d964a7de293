-- The files of lemmas.
pub mod Combining
pub mod Numbers
pub mod Telling
pub mod Below
pub mod Copies

-- The files of lemmas.
pub mod Fronts
pub mod Reading
pub mod Fields

-- The files of lemmas.
pub mod Chosen
pub mod Tops
pub mod Planned

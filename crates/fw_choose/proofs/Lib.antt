-- The files of lemmas.
pub mod Numbered
pub mod Choosing
pub mod Opening

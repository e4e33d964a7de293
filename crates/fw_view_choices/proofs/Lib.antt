-- The files of lemmas.
pub mod Flushing
pub mod Carrying
pub mod Ends
pub mod Choices

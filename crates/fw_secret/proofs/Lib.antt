-- The files of lemmas.
pub mod Ranges
pub mod Parts
pub mod Words
pub mod Chunks
pub mod Secrets

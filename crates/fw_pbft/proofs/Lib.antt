-- The files of lemmas.
pub mod Signatures
pub mod Lowest

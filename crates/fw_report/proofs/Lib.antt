-- The lemmas.
pub mod Spoken

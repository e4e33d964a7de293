-- The files of lemmas.
pub mod Facts
pub mod Laws
pub mod Steps
pub mod TableFacts
pub mod Logarithms
pub mod Newton
pub mod Points
pub mod Existence
pub mod Weighing

-- The files of lemmas.
pub mod Outcomes
pub mod Known
pub mod Plans
pub mod Answering
pub mod Written

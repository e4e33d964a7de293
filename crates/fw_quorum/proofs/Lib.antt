-- The files of lemmas.
pub mod Members
pub mod Counting
pub mod Premises

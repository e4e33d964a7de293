-- The files of lemmas.
pub mod Stamps
pub mod Front
pub mod Sight

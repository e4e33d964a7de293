-- The files of lemmas.
pub mod Ranks
pub mod Seats

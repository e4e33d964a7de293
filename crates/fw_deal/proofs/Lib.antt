-- The files of lemmas.
pub mod InRows
pub mod Ranges
pub mod Seats

-- The files of lemmas.
pub mod Seating
pub mod Events
pub mod Running
pub mod Asking
pub mod Finding

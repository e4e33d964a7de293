-- The files of definitions.
pub mod Carried
pub mod Seats
pub mod Schedules

-- The files of lemmas.
pub mod Fitting
pub mod Stepping
pub mod Agreeing
pub mod Turning
pub mod Ticking
pub mod Viewing

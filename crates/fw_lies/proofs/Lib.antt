-- The files of lemmas.
pub mod Fitting
pub mod Sending
pub mod Signed

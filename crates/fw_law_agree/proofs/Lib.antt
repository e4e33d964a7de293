-- The files of lemmas.
pub mod Listed
pub mod Once
pub mod Growing
pub mod Sending
pub mod Showing
pub mod Knowing
pub mod Fitting
pub mod Releasing
pub mod Allowing
pub mod OneSignature
pub mod Apart
pub mod Genuine
pub mod Running

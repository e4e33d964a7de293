-- The files of definitions.
pub mod Runs
pub mod Signed
pub mod OneSignature
pub mod Genuine

-- The files of lemmas.
pub mod Lists
pub mod Entries
pub mod Signatures
pub mod Fitting
pub mod Sending
pub mod Asking
pub mod Sharing
pub mod Joining
pub mod Deployed
pub mod Ruling

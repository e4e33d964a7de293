-- The files of lemmas.
pub mod Frames
pub mod Senders
pub mod Best
pub mod Places

-- The files of lemmas.
pub mod Bytes
pub mod Words
pub mod Blocks
pub mod Bodies
pub mod Opened

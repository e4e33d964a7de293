-- The definitions.
pub mod Keys
pub mod Words
pub mod Ops
pub mod Parts
pub mod Replies
pub mod Reading

-- The files of lemmas.
pub mod Gathering
pub mod Rows
pub mod Whole
pub mod Reading
pub mod Lists
pub mod Fields
pub mod FrameFields
pub mod Writing
pub mod Beginning
pub mod Undoing
pub mod View

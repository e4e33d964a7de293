-- The files of lemmas.
pub mod Within
pub mod Frames
pub mod Agreeing
pub mod Ticking
pub mod Speaking
pub mod OneList
pub mod Values
pub mod Replying
pub mod Told
pub mod Sharing
pub mod Letting
pub mod Telling
pub mod Laws

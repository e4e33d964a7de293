-- The files of lemmas.
pub mod Going
pub mod Turned
pub mod Shapes
pub mod Doable
pub mod Heard
pub mod Sends

-- The files of lemmas.
pub mod Keyed
pub mod Keys
pub mod Others
pub mod Answering
pub mod Turns
pub mod Executing
pub mod Admitted
pub mod Sendable
pub mod After
pub mod Beginning

-- The files of definitions.
pub mod Signing
pub mod Means
pub mod Choices
pub mod Agree
pub mod Views
pub mod Roles
pub mod Deployed
pub mod World
pub mod Toy
pub mod Rows

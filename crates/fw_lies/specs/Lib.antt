-- The files of definitions.
pub mod Signing
pub mod Lying
pub mod Made
pub mod Laws

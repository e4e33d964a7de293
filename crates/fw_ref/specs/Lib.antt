-- The files of definitions.
pub mod Reference
pub mod Bodies
pub mod Ranges
pub mod Certificates

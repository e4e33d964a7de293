-- The files of definitions.
pub mod Lists
pub mod Trace
pub mod Run
pub mod Role
pub mod Client
pub mod Executor
pub mod Filter

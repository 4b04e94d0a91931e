pub mod Naming
pub mod Reading
pub mod Writing

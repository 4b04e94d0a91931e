pub mod Appending
pub mod HandIns
pub mod Reading
pub mod Writing

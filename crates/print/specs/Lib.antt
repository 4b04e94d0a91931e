pub mod Appending
pub mod Lines

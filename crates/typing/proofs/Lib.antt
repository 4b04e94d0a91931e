pub mod Levels
pub mod Passing

pub mod Adding
pub mod Filling
pub mod Flags
pub mod Levels
pub mod Lines
pub mod Names
pub mod Sheets

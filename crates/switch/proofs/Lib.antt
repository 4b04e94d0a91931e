pub mod Transitions
pub mod Sheets
pub mod Filling

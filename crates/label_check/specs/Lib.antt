pub mod Checked
pub mod Joins
pub mod Rows
pub mod Tables

pub mod Answering
pub mod Appending
pub mod Days
pub mod Lines
pub mod Records

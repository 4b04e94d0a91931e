pub mod Lawful
pub mod Loading
pub mod Sound
pub mod Switching

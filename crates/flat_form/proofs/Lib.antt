pub mod Again
pub mod Blanks
pub mod Completeness
pub mod Expressed
pub mod Loads
pub mod Sound
pub mod Soundness

pub mod Batches
pub mod Level

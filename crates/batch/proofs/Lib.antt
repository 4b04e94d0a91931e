pub mod Batches
pub mod Joining

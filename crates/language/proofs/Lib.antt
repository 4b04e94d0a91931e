pub mod Blocks
pub mod Rounding
pub mod Stalls

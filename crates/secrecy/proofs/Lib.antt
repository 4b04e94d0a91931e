pub mod Agreeing
pub mod Apart
mod Blocks
mod Hiding
pub mod Outcomes
mod Secure
mod Together

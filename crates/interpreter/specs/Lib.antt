pub mod Handlers
pub mod Jobs
pub mod Laws
pub mod OneProof
pub mod Outward
pub mod Places
pub mod Sound

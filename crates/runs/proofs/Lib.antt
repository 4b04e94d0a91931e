mod Cases
pub mod Exactness
pub mod Going
pub mod Laws
pub mod Levels
pub mod Lists
pub mod Partings
pub mod Releases
pub mod Replies
pub mod Runs
pub mod Secrecy
pub mod Slips
pub mod States
pub mod Telling
pub mod Verdicts

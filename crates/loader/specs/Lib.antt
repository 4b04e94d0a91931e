pub mod Lawful
pub mod Laws
pub mod Loading

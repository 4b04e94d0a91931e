pub mod Beginnings
pub mod Meaning
pub mod Reacting

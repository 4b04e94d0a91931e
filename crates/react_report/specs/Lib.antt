pub mod Report
pub mod Switches

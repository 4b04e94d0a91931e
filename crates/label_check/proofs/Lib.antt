pub mod Exact
pub mod Filling
pub mod Onward
pub mod Same
pub mod Scan

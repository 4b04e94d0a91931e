pub mod OnlyLine
pub mod Schemes

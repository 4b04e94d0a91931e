pub mod Block
pub mod Expression
pub mod Laws
pub mod Operators
pub mod Run
pub mod Step

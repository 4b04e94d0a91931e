pub mod Derivation
pub mod Labels
pub mod Laws
pub mod Rule

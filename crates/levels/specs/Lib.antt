pub mod Chain
pub mod Lattices
pub mod Pair
pub mod Parties
pub mod Products
pub mod Scheme
pub mod Subsets

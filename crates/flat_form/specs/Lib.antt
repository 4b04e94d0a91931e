pub mod Extents
pub mod Fitting
pub mod Rebuilding

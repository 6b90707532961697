pub mod Deviations
pub mod Naming
pub mod Weighted
pub mod Tables
pub mod Parts

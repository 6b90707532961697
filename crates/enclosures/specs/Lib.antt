pub mod Pilots
pub mod Radii
pub mod Vectors

pub mod Fits
pub mod Halves

pub mod Exponents
pub mod Refusals
pub mod Rows
pub mod Scaled
pub mod Tables

pub mod Dominant
pub mod Refusals

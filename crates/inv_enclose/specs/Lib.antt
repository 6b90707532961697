pub mod Columns
pub mod Inverses
pub mod Parts
pub mod Refusals

pub mod Indices
pub mod Rows
pub mod Blocks
pub mod Named

pub mod Exact
pub mod Tables
pub mod Parts

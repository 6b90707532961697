pub mod Answers
pub mod Exact
pub mod Parts
pub mod Products

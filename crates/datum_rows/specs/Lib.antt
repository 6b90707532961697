pub mod Additions
pub mod Answers
pub mod Conditions
pub mod Exact
pub mod Rows
pub mod Sites
pub mod Views

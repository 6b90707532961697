pub mod Passes
pub mod Titles
pub mod Single

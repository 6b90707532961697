pub mod Files
pub mod Solved
pub mod Recovery
pub mod Parts

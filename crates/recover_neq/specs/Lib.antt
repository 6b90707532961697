pub mod Blocks
pub mod Recovery
pub mod Exact

pub mod Solutions
pub mod Exact
pub mod Recovery
pub mod Views
pub mod Parts

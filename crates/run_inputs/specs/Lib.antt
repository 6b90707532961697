pub mod Words
pub mod Files
pub mod Controls
pub mod Inputs
pub mod Views
pub mod Single

pub mod Bounds
pub mod Differences
pub mod Digits
pub mod Ends
pub mod Printing
pub mod Refusals
pub mod Residuals
pub mod Rows

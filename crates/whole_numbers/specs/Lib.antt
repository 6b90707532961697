pub mod Least
pub mod Lists
pub mod Quotients
pub mod Scaling
pub mod Sum
pub mod Intervals
pub mod Squares

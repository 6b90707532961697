pub mod Alone
pub mod Carried
pub mod Makings
pub mod Placed
pub mod Ranges
pub mod Steps

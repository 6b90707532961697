pub mod Quotients
pub mod Worked

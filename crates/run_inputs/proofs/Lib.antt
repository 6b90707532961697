mod WordTests
mod Tested
mod NameOrder
mod Turns
pub mod Alone

pub mod BlockLaws
pub mod Passed
pub mod Alone

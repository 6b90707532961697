pub mod Alone
pub mod Chain

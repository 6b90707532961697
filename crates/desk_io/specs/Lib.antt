pub mod Content
pub mod Desk
pub mod MemDesk
pub mod Outputs
pub mod Whole

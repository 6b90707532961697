pub mod Neqs
pub mod ByName
pub mod Stacks
pub mod Systems
pub mod Joining

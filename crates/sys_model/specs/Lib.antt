pub mod Scaling
pub mod Systems

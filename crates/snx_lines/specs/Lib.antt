pub mod Lines
pub mod Framing
pub mod Views
pub mod Passing

pub mod Adding
pub mod Combined
pub mod Numbers

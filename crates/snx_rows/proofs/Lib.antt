pub mod Deviations
pub mod Digits
pub mod Chain
pub mod Alone
pub mod Loops
pub mod Sound

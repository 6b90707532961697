pub mod Answers
pub mod Common
pub mod Firsts
pub mod Moves
pub mod Parts
pub mod Shifts

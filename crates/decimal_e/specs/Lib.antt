pub mod Answers
pub mod Cuts
pub mod Decimals
pub mod Digits
pub mod Fractions
pub mod Grammar
pub mod Scales
pub mod Tallies

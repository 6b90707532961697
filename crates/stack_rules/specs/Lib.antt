pub mod Dominance
pub mod Refusals
pub mod Rules
pub mod Stacks

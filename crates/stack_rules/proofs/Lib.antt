pub mod Alone
pub mod Answering
pub mod DominantStacks

pub mod Correlations
pub mod Exact
pub mod Parts

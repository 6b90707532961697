pub mod Alone
pub mod DifferenceLaws
pub mod HoldLaws
pub mod PartLaws
pub mod SumLaws

pub mod Hundreds
pub mod RowLaws
pub mod ScaledLaws
pub mod WorkingLaws

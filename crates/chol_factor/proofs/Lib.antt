pub mod Alone
pub mod ColumnLaws
pub mod SumLaws

pub mod EqualTables
pub mod Rows
pub mod Written

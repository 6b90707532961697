pub mod YearDays
pub mod Times
pub mod Printed

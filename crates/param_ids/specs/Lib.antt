pub mod Plain
pub mod Texts
pub mod Ids
pub mod Labels
pub mod Order
pub mod Lists
pub mod Tables
pub mod Union

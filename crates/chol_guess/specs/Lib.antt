-- A stranger reads Midpoints, Columns, Pilots and Refusals. Made, and Rows with it, say what is made of one factor and serve
-- private functions besides.
pub mod Columns
pub mod Made
pub mod Midpoints
pub mod Pilots
pub mod Refusals
pub mod Rows

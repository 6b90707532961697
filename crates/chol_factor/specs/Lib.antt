-- A stranger reads Factor and Refusals. Making serves private functions alone.
pub mod Factor
pub mod Making
pub mod Refusals

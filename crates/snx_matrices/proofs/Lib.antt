pub mod PlaceLaws
pub mod FlagLaws
pub mod PassLaws
pub mod LineLaws
pub mod KeptLaws
pub mod Single

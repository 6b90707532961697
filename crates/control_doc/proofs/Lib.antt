mod Items
mod Chain
mod Shorts
mod FileSteps
mod Turns
pub mod OneAnswer
mod SiteLists
mod DatumSteps
mod WholeSteps
mod Fives
mod TextSteps
mod Created
mod Validity

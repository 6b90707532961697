pub mod Enclose
pub mod Exist
pub mod Law
pub mod Parts
pub mod RescaledLaws
pub mod ScalingLaws
pub mod Worked

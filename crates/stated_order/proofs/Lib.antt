pub mod FirstLaws
pub mod StepLaws

pub mod SourceLaws
pub mod InformationLaws
pub mod SpreadLaws
pub mod SolvedLaws
pub mod TableLaws
pub mod RecoveryLaws
pub mod MadeLaws
pub mod KnownLaws

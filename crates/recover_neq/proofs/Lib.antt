pub mod Alone
pub mod LawExact
pub mod NamedLaws
pub mod RecoverLaws

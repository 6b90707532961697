pub mod Alone
pub mod AnswerLaws
pub mod HoldLaws
pub mod QuotientLaws
pub mod TensLaws
pub mod WorkedLaws

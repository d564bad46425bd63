pub mod DigitLaws
pub mod DecimalLineLaws
pub mod NextLineLaws
pub mod ReadLaws
pub mod PrintLaws
pub mod AnswerLaws
pub mod OutputLaws

pub mod ExampleLaws
pub mod TextLaws
pub mod FormLaws
pub mod LongestLaws
pub mod PrefixLaws
pub mod ReadBackLaws
pub mod RefusalNumberLaws

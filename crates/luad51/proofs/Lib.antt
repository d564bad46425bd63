pub mod CheckedNumberLaws

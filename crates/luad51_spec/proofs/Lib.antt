pub mod PassLaws
pub mod ResultLaws

pub mod AllLaws
pub mod ByteLaws
pub mod ListLaws
pub mod PartLaws
pub mod SignedLaws
pub mod BoolLaws

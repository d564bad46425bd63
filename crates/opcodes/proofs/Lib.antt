pub mod FieldLaws
pub mod OpcodeLaws
pub mod OpcodeTestLaws
pub mod SplitLaws

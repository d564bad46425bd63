pub mod Bounds
pub mod Terms
pub mod BindingSteps
pub mod Fills

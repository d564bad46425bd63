pub mod Table
pub mod Roles
pub mod Bindings
pub mod Refusals
pub mod Calls
pub mod Samples
pub mod Examples

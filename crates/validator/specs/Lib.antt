pub mod Clean
pub mod Terms
pub mod Rows
pub mod Steps

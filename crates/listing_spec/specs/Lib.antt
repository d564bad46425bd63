pub mod Text
pub mod Listing
pub mod Packcheck
pub mod Longest
pub mod Examples

pub mod Bytes
pub mod Lists

pub mod Links
pub mod Keeps
pub mod Props
pub mod Lists

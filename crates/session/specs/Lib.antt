pub mod Reports
pub mod Texts
pub mod Searching
pub mod Steps
pub mod Calls

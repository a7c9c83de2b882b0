pub mod Numbers
pub mod Requests
pub mod Lines
pub mod Scripts

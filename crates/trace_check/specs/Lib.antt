pub mod Trailers
pub mod Checks
pub mod Meaning

pub mod Gains
pub mod Namings

pub mod Finds
pub mod Leasts
pub mod Meanings
pub mod Puts
pub mod Sames

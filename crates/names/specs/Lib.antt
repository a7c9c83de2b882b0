pub mod Bytes
pub mod Names
pub mod Tables
pub mod Slots
pub mod Calls
pub mod Laws
pub mod Keyed

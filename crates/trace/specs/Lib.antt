pub mod Marks
pub mod Lines
pub mod Tables
pub mod Calls
pub mod Laws

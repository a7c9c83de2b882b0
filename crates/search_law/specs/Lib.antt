pub mod Models
pub mod Law
pub mod Texts

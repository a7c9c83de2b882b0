pub mod Bits
pub mod Truths
pub mod Ranks
pub mod Readings
pub mod Ordered
pub mod Spaces

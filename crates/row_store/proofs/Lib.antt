pub mod Arrivals
pub mod InOrder
pub mod Stores

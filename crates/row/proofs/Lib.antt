pub mod Seats
pub mod Search

pub mod Seats
pub mod Keeps

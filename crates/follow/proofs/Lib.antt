pub mod Walks
pub mod Attending

pub mod Actions
pub mod Replies
pub mod Texts

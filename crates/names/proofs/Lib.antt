pub mod Spellings
pub mod Ranks
pub mod Finds
pub mod Holders
pub mod Numbers
pub mod Gifts
pub mod Outcomes

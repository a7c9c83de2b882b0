pub mod Counting
pub mod Knowing
pub mod Soundness
pub mod Outcomes
pub mod Uniques

pub mod Entries
pub mod Marking
pub mod Computed
pub mod Numbering
pub mod Writing
pub mod Depending
pub mod Whole

pub mod Words
pub mod Clauses
pub mod Order
pub mod Reading
pub mod Refusals
pub mod Texts

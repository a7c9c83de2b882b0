pub mod Gathered
pub mod Phrases
pub mod Cuts
pub mod Spacing
pub mod Scripting

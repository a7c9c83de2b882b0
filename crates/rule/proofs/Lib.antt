pub mod Atoms
pub mod Law

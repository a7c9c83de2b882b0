pub mod Courses
pub mod Lead
pub mod Split

pub mod Printed
pub mod Answered

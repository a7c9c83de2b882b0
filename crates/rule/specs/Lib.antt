pub mod Rule
pub mod Tests

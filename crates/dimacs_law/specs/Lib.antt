pub mod Cut
pub mod Lines
pub mod Grammar
pub mod Examples

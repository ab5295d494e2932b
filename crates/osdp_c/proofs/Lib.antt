pub mod Short
pub mod Examples

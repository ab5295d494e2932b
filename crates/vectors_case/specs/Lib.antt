pub mod Case
pub mod Buffer

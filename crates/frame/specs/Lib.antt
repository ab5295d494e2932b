pub mod Frame
pub mod Scan
pub mod Promises
pub mod Examples

pub mod Buffers
pub mod Writes

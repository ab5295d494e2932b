pub mod Crc
pub mod Sum
pub mod Known

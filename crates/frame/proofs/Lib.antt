pub mod Back
pub mod CodeBytes
pub mod Examples
pub mod Forth
pub mod Laws
pub mod Promises
pub mod Streams

pub mod Known
pub mod Laws

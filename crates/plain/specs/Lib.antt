pub mod Exact
pub mod Com
pub mod PdId
pub mod LStat
pub mod Number

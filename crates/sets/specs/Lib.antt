pub mod Sets
pub mod Words

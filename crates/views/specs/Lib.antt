pub mod View
pub mod Tree
pub mod Owners
pub mod Soundness
pub mod Families
pub mod Reach
pub mod Index
pub mod Arrays

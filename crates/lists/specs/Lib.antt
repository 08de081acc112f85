pub mod Listed
pub mod Singly

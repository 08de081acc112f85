pub mod Written
pub mod Stored

pub mod Words
pub mod Desk

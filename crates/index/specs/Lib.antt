pub mod Places
pub mod Tables
pub mod Given
pub mod Making
pub mod Families
pub mod Kept

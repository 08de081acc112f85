-- Unique: each contract has one result.
pub mod Unique

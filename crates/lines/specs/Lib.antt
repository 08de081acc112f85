pub mod Bytes
pub mod Lines
pub mod Feeding
pub mod NextEnds

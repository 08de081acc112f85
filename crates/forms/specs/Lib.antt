pub mod Kinds
pub mod Text
pub mod WellShaped

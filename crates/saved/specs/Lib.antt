pub mod Saved
pub mod InPlace

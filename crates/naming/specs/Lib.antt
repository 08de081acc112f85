pub mod Told
pub mod Blocking
pub mod Text

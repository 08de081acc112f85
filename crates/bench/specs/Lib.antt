pub mod Record
pub mod Draining
pub mod Plays

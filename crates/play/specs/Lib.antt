pub mod Known
pub mod Places
pub mod Telling
pub mod Saying
pub mod Feeding
pub mod Feeds
pub mod Finishing

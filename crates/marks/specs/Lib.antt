pub mod Answers
pub mod Requests

-- Unique: a number is one answer's, and a request of the rules one request's; no second result is a number's refusal.
pub mod Unique

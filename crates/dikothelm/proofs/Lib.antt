-- PlayLaws: what playing a chunk, and ending the input, leave in an image and a player's progress.
-- Unique: that each call has one result.
mod PlayLaws
pub mod Unique

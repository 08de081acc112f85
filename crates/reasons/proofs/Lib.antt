-- Frames: the answer that the bench's requests give to a frame.
-- Unique: `explain` has one result.
pub mod Frames
pub mod Unique

-- ReadDigits: digits tested and read one at a time.
-- ReadFrames: where no frame of so many digits can stand, and what a test of a frame's two values says of the text.
-- ReadTurns: one number or instrument after the other.
-- ReadHalves: what is read into a list of two halves.
-- Unique: that reading has one result.
mod ReadDigits
mod ReadFrames
mod ReadTurns
mod ReadHalves
pub mod Unique

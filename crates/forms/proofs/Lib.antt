-- Hex: what is written in hexadecimal digits is read back, and digits that stand in a text are the writing of what is read.
-- Frames: the same of whole frames, and which frame does not stand where another does.
-- FrameKinds: frames of actions and frames of instruments.
-- Rows: n cells of a kind in a row are taken as the arrays that they were written from, and what is taken writes what stood there.
-- RoundTrips: the text of a sound bench says that bench, a text that says a bench is its text, and no text is longer than 5312 bytes.
pub mod Hex
pub mod Frames
pub mod FrameKinds
pub mod Rows
pub mod RoundTrips

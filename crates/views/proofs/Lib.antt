-- What the laws of crate tables say of four arrays with two modes:
-- Words: the lengths of the four arrays, who stands in their sets, and a family that has left them or drains.
-- Asks: the answer to a read or a write, and the arrays that it leaves.
-- Quiets: the answer to a quiet, and the arrays that it leaves.
-- Ends: what the code of an accepted frame is.
pub mod Words
pub mod Asks
pub mod Quiets
pub mod Ends

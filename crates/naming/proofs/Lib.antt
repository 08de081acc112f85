-- Blockers: the smallest number of the blocking set, and what is told of it.
-- Codes: whom an answer names by the request that a frame makes is whom it names by its code.
-- Frames: what a frame's code says of its request.
-- Telling: whom an answer names in the arrays is whom the rules say, after the answer too.
-- Texts: how long a reason's text is, and what stands in its buffer.
-- Unique: `named`, `named_of_request` and `text_of` have one result.
pub mod Blockers
pub mod Codes
pub mod Frames
pub mod Telling
pub mod Texts
pub mod Unique

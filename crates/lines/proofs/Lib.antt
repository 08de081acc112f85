-- The trace player:
-- LineEnds: what a line's end is answered and leaves in the arrays.
-- FeedLaws: bytes fed one at a time: what is written, and what is left to feed.
-- BegunLines: a line that has begun, fed byte by byte, and its request.
-- LineFeeding: feeding byte by byte plays the lines of a trace, however its bytes are cut.
-- TraceCases: document 01's whole case and lines of other shapes, computed.
-- WholeLines: lines that end within the input, read at once.
pub mod LineEnds
pub mod FeedLaws
pub mod BegunLines
pub mod LineFeeding
pub mod TraceCases
pub mod WholeLines

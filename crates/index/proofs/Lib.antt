-- Walks: places and numbers, walked from the least on.
-- Leaving: numbers that leave the sets of some places.
-- SoundBytes: what is known of the bytes and words of a sound bench.
-- StandLaws: numbers that stand at some places only.
-- PlacedLaws: places and groups after an ask, an open and the commit of a sub, and stores elsewhere.
-- PlacedEnds: places and groups after the end of a family and after a quiet.
-- IndexParts: the parts of the index that tell of the tree, and what a store leaves of them; and the words of parts.
-- Making: the index as it is first made is that of a sound bench.
-- Families: families gathered from the index.
-- Kept: requests on any arrays and index, by their codes.
-- IndexSteps: the parts that tell of the tree after each step.
-- Plain: what is done by the index is what is done by the arrays alone.
-- KeptSteps: on the table of a sound bench a request is the step of the rules.
-- Unique: each request, and the making of the index, has one result.
pub mod Walks
pub mod Leaving
pub mod SoundBytes
pub mod StandLaws
pub mod PlacedLaws
pub mod PlacedEnds
pub mod IndexParts
pub mod Making
pub mod Families
pub mod Kept
pub mod IndexSteps
pub mod Plain
pub mod KeptSteps
pub mod Unique

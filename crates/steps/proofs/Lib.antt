-- The code, on any arrays:
-- Clears: lists whose numbers got another byte or have gone.
-- Gathered: the set of the numbers of which a test holds.
-- Standing: all numbers that stand in sets.
-- Steps: steps put together.
-- Unique: each step has one result.
pub mod Clears
pub mod Gathered
pub mod Standing
pub mod Steps
pub mod Unique
-- The arrays of a sound bench:
-- Halves: the owners' words as read sets and write sets.
-- Laws: a step of the rules from its row and its change, and opens in place are such steps.
-- EndLaws: commits and aborts are.
-- QuietLaws: quiet is.
-- AskLaws: reads and writes are.
-- RequestLaws: any request is, with what it has to know looked up in the arrays.
pub mod Halves
pub mod Laws
pub mod EndLaws
pub mod QuietLaws
pub mod AskLaws
pub mod RequestLaws

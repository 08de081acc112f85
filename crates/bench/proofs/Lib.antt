-- Answering: how the soundness test and a row make an answer.
-- Asking: the rows of an ask that were found are the answer of a sound bench.
-- Leaving: a family leaves the four arrays of a record, or drains in them.
-- Quieting: quiet by value.
-- StandingUnique: who stands in sets, and the byte of numbers that were aborted, have one result each.
-- Unique: the reading of a record as a bench loses nothing, so each request has one result.
pub mod Answering
pub mod Asking
pub mod Leaving
pub mod Quieting
pub mod StandingUnique
pub mod Unique

-- WordLaws: how many records words hold, and that records and spare words are all of them.
-- Playing: a list that is played record by record.
-- Calls: what a call leaves in an image.
-- Cases: words read as records, computed.
-- Unique: a call has one result.
mod WordLaws
mod Playing
mod Calls
mod Cases
pub mod Unique

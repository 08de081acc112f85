-- PlayerFeeding: what a player hands back, from the bytes that it was fed.
-- Saying: a text that is put into a buffer.
-- Traces: the trace player's output is the definition's, however the input is cut.
-- Finishing: what ending the input hands back, and that it gives a trace's last answer.
-- UniquePlayers: feeding a player, ending its input and putting what is written for a line have one result each.
pub mod PlayerFeeding
pub mod Saying
pub mod Traces
pub mod Finishing
pub mod UniquePlayers

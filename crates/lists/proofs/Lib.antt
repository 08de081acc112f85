-- Turn: a turn of the loop over a lent list, as laws on plain values.
-- SingleCalls: a call gives what single calls in list order give.
-- Unique: no second result satisfies a contract.
pub mod Turn
pub mod SingleCalls
pub mod Unique

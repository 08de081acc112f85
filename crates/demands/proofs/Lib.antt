-- Contracts: what a caller learns from each contract is what the theorems start from.
-- Demands: demands 2 and 3 of what the methods return.
-- Methods: demand 2 of what the methods return, in document 01's words.
-- Draining: the same of abort and quiet, in document 02's words.
-- KeptSound: from what the methods ensure, soundness is kept.
-- Listed: a bench within the table is that of a record.
-- KeptWithin: every request of a method keeps a bench within the table.
-- Replies: every request has a reply that its contract allows, and document 01's whole session is played.
-- Lists: demands 2 and 3 of what a lent list of requests gets.
-- Through: a caller who lends three bytes of output or more, and lends the rest again, gets through any input.
pub mod Contracts
pub mod Demands
pub mod Methods
pub mod Draining
pub mod KeptSound
pub mod Listed
pub mod KeptWithin
pub mod Replies
pub mod Lists
pub mod Through

-- Ground:
-- Tests: laws of the tests that compute: all and any below a bound, implications, choices.
-- Facts: what soundness says of each number, as facts, and back from the facts to the test.
-- Walks: going up from parent to parent in a sound bench: laws of ancestors and heirs that mention no number of steps, and induction along parents.
-- Chains: what it takes for a chain of parents to end within a number of steps.
-- Pigeonhole: a chain of parents that ends at all ends within one step less than there are numbers.
-- Family: an action and its descendants, told from the parent's family.
-- Accepted: what an answer 0 implies, for each request.
-- Smallest: the smallest number of which a test holds.
-- Frames: what a frame's code says of its request.
pub mod Tests
pub mod Facts
pub mod Walks
pub mod Chains
pub mod Pigeonhole
pub mod Family
pub mod Accepted
pub mod Smallest
pub mod Frames
-- Theorems about the rules:
-- Kept: every request on a sound bench leaves a sound bench.
-- Asking: an accepted read or write enters the set, and asking again gives the same answer and the same bench.
-- Grants: the four entries of the table of conflicts, and the granting rule in document 01's words, without the table.
-- Draining: a family in no set is freed at once; who drains keeps others from its instruments, keeps its place, and isn't there for any request.
-- Quieting: nothing drains for ever.
-- AsBefore: where nobody drains, all is as it was before document 02's order 2.
-- DrainingControls: stronger claims about who drains, refuted.
-- SetForm: owner sets held to ancestors, and upward and downward sets, give the rule over heirs.
-- Reasons: whom an answer names, what is said of an owner that blocks, and that all answers but 0 and 7 name somebody.
-- ReasonControls: reasons computed, and stronger claims refuted.
-- Lists: what a call with a list gives is what single calls in list order give; one call is as good as two, and nothing but the answer places changes.
-- ListControls: calls computed, and stronger claims refuted.
-- Sessions: document 01's sessions marked (P) and those of order 2, answered by the step as the documents answer them: one computed test.
-- Controls: computed benches that tell the rules from wrong ones near them, and on which soundness holds and fails.
pub mod Kept
pub mod Asking
pub mod Draining
pub mod Quieting
pub mod AsBefore
pub mod DrainingControls
pub mod SetForm
pub mod Grants
pub mod Reasons
pub mod ReasonControls
pub mod Lists
pub mod ListControls
pub mod Sessions
pub mod Controls
-- Demand 2, the plain machine:
-- HeirChanges: how heirs change with each accepted request.
-- OwnerChanges: how owners change with each accepted request; a committed sub keeps its sets, and its parent owns what it owned.
-- CommitOwners: the same of a committed sub in document 01's words, its parent in its place among the owners.
-- DrainOwners: how owners change with an abort that drains and with quiet.
-- PlainAnswers: a sound bench and a plain machine that say the same give every request the same answer.
-- PlainEffects: a sound bench and a plain machine that say the same still do after every accepted request.
-- DemandTwo: demand 2, the bench and the plain machine of Moss's rules answer every list of requests alike.
-- PlainReasons: whom a sound bench names the plain machine would name.
-- DemandControls: both machines computed, and near variants of them told apart by a list of requests.
pub mod HeirChanges
pub mod OwnerChanges
pub mod CommitOwners
pub mod DrainOwners
pub mod PlainAnswers
pub mod PlainEffects
pub mod DemandTwo
pub mod PlainReasons
pub mod DemandControls
-- Demand 3, any merging:
-- Mix: two benches put together by member, and what each side keeps to.
-- MixWalks: on the mix, a number's ancestors, heirs and children, and what it is granted, are those of its own bench.
-- MixSteps: a request that keeps to one side steps on the mix as on its own bench.
-- Alone: a bench that a side has to itself stays so under the side's own requests.
-- Merged: the answers and the record of a merging, from two benches side by side.
-- DemandThree: demand 3, any merging of two lists that are apart gets each its own answers by Moss's rules, and all mergings leave the same record.
-- ListOrders: two lists of request records that are apart, called in either order, are each answered as if alone, and leave the same record.
-- ApartTest: a test, pair by pair, that shows two lists to be apart.
-- MergingControls: a merging computed, and demand 3 refuted where any of its hypotheses is weaker.
pub mod Mix
pub mod MixWalks
pub mod MixSteps
pub mod Alone
pub mod Merged
pub mod DemandThree
pub mod ListOrders
pub mod ApartTest
pub mod MergingControls

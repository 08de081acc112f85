-- The view and what the requests do to it:
-- States: what a state's byte says to the tests of the rules, in the table and in its tree.
-- ViewLaws: what parents' bytes and sets say to the tests of the rules, what a sound bench says of its table and its tree, and what is granted.
-- Groups: groups that drain, by their bytes, and numbers that stand in sets.
-- Stores: how the stores of a request show in the view.
-- OneWord: the same where each set is one word.
-- Steps: how answers and next benches make a step.
-- Rows: the last rows of open sub and commit, the rows of an ask from those of a commit, the rows of quiet, and all of them on the whole bench.
-- Accepts: the table after an accepted request's stores is the step.
-- InPlace: the same in place, on the table of a sound bench.
-- SetsKept: which sets a request leaves as they were.
-- Folds: what a pass over a list says of all its elements, or of any, where it joins a test of each.
pub mod Folds
pub mod States
pub mod ViewLaws
pub mod Groups
pub mod Stores
pub mod OneWord
pub mod Steps
pub mod Rows
pub mod Accepts
pub mod InPlace
pub mod SetsKept
-- The soundness test:
-- Bytes: the tables that parents' bytes are looked up in.
-- Told: tables that tell of states' bytes whether numbers that stand in sets have them, and whether a number may.
-- Climbs: chains of parents that end, found by climbs that stop at numbers known to end.
-- Members: a test of all members of a set, or of some, taken member by member, and of those that two sets have in common.
-- SoundParts: the parts of the soundness test make the whole.
pub mod Bytes
pub mod Told
pub mod Climbs
pub mod Members
pub mod SoundParts
-- The tree of actions, and what leaves it:
-- Taken: one turn of a loop that takes the least number out of a set.
-- Lines: the asker and its ancestors, gathered going up.
-- Heirs: the nearest running number, met going up, and that it is the heir.
-- Families: a set grown by children until it is a family.
-- Adopting: a number taken into a set where its parent is in it, by shifts.
-- Gathering: sets of children, lines and running numbers, gathered by loops.
-- Cleared: arrays that change place by place: bytes of numbers that go or drain, and sets that numbers leave.
pub mod Taken
pub mod Lines
pub mod Heirs
pub mod Families
pub mod Adopting
pub mod Gathering
pub mod Cleared
-- Going up until a number is met that is asked for, by parents' bytes of any value:
-- Named: the number that a parent's byte names.
-- Reaching: how one is met, and within how many steps.
-- Sorting: numbers sorted by whether they lead to one that is hit, one climb after the other.
-- Held: owners that are held in a line, and the line of a running asker.
-- Owning: the owners of a set, gathered; and on a sound bench, that they are the owners by Moss's rules.
-- Descendants: an action and its descendants, gathered alone, in one pass or by climbs; and on a sound bench, that they are its family.
-- EachLine: the lines of all numbers, each from that of its parent; and on a sound bench, that they are the actions and their ancestors.
pub mod Named
pub mod Reaching
pub mod Sorting
pub mod Held
pub mod Owning
pub mod Descendants
pub mod EachLine
-- What is kept beside the arrays:
-- Knowing: what an answer has to know of its action, from the sets of children, lines and running numbers, and those sets as they are first made.
-- Indexing: those sets after each request.
-- IndexKept: the same, from the step of a line.
pub mod Knowing
pub mod Indexing
pub mod IndexKept
-- Controls: a second instance, computed, and stronger laws that are refuted.
-- DrainControls: the same of numbers that drain.
pub mod Controls
pub mod DrainControls

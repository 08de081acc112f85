-- `Laws`: the laws of sets over plain numbers and any width, for the proofs of this crate and of the crates that link it.
-- Sets of several words, once over their number and width: `WordPlaces`, where numbers stand; `WordLaws`, the members after each operation; `WordFits`,
-- words of the width, and sets with the same members; `WordTests`, inclusion, meeting, the least member; `WordEvery`, tests of all numbers word by word;
-- `OneWord`, one word as an instance; `WordControls`, sets computed, and laws without their bounds refuted.
pub mod Laws
pub mod WordPlaces
pub mod WordLaws
pub mod WordFits
pub mod WordTests
pub mod WordEvery
pub mod OneWord
pub mod WordControls

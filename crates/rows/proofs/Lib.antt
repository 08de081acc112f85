-- Asking: the rows of an ask, as the code finds them.
-- RowLaws: the rows of a commit and of an ask on a sound bench are the rules'.
pub mod Asking
pub mod RowLaws

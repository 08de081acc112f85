-- CopyLaws: numbers copied from list to list, one by one, and two lists put one behind the other.
pub mod CopyLaws

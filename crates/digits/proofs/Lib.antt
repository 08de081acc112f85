-- Unique: that the table of all values is one list.
-- Worth: what a byte is worth, a digit's value or none.
pub mod Unique
pub mod Worth

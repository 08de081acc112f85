-- Steps: one step more, as a loop that counts up takes it. Texts: the bench after a text, character by character.
pub mod Steps
pub mod Texts

pub mod Arrays
pub mod Changes
pub mod Steps

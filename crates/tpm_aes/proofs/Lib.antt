pub mod Columns
pub mod Entries
pub mod Steps
pub mod TextBlocks
pub mod Undone
pub mod Vectors
pub mod Words

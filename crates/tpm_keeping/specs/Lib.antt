pub mod Journal
pub mod Holder
pub mod View
pub mod World
pub mod Kept
pub mod Lines
pub mod Sentence
pub mod Cutting

pub mod WrittenTexts
pub mod Fields
pub mod Joining
pub mod Spelling

pub mod Longest
pub mod Wrapping

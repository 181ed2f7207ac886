pub mod Contexts
pub mod Listed
pub mod Objects
pub mod Sequences
pub mod SessionEntries

pub mod Head
pub mod Protection
pub mod Context
pub mod Sequences
pub mod Meaning

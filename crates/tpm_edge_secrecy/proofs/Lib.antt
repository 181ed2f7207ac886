pub mod Contexts
pub mod Layer
pub mod Completed
pub mod Opened
pub mod Sequences
mod SessionEntries
mod NoSecretKeys

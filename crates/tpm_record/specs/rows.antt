-- What the rows of all commands have in common.
pub mod Request
pub mod Draws
pub mod Answer
pub mod Refusals
pub mod Rows
pub mod Target

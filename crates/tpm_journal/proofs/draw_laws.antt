-- The laws about the random bytes that a command draws.
pub mod Fronts
pub mod Alike
pub mod Rows
pub mod Needed
pub mod Steps
pub mod Executions

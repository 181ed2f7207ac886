-- Definitions about the random bytes that a command draws.
pub mod Bytes

pub mod Lockout
pub mod Tries
pub mod Recovery

pub mod Fault
pub mod kept
pub mod Restoring

pub mod Fault
pub mod Standing

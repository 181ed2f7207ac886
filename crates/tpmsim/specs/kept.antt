pub mod Fault
pub mod Stop
pub mod Tracing

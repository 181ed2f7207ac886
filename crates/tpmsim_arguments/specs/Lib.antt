pub mod Answers
pub mod Invocation
pub mod CommandLine
pub mod Fault
pub mod Lines
pub mod Slip
pub mod Usage

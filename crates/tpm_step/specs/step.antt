-- Definitions of what one event does to a device, and of runs of events.
pub mod Events
pub mod General
pub mod Table
pub mod Granted
pub mod Parameters
pub mod Placing
pub mod Entries
pub mod Answer
pub mod Step
pub mod Run
pub mod Safe
pub mod Execution
pub mod Profiles

-- The log of a device.
pub mod Executed
pub mod Log

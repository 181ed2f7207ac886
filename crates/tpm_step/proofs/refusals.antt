-- The laws about the refusals by the commands' own checks.
pub mod Steps
pub mod DeviceRows
pub mod IndexRows
pub mod ObjectRows
pub mod PolicyRows
pub mod Table
pub mod Reports

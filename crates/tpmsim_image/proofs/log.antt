pub mod Noting
pub mod Telling

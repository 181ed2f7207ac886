pub mod Telling
pub mod Listing
pub mod Handles
pub mod Counters
pub mod PcrProperties
pub mod Symmetric

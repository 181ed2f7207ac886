-- The laws about one event.
pub mod Decoding
pub mod PowerCycles
pub mod Placing
pub mod Profiles

pub mod Damage
pub mod Meanings
pub mod Times
pub mod Buffers
pub mod Playing

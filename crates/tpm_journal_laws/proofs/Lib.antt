pub mod Numbers
pub mod Breaks
pub mod Meanings
pub mod Times
pub mod Buffers
pub mod Playing
pub mod Damage
pub mod Executing

pub mod Sum
pub mod Marked
pub mod Entry
pub mod Head
pub mod Places
pub mod Journal

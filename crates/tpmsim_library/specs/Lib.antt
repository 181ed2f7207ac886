pub mod Held
pub mod State
pub mod Told
pub mod Journal
pub mod Restoring
pub mod Version
pub mod Keeping
pub mod Numbers

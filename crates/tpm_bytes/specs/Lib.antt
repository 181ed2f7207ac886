pub mod Reading
pub mod Many
pub mod Writing
pub mod Lends
pub mod Tap
pub mod Numbers

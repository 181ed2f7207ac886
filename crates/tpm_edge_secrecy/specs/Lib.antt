pub mod Layer
pub mod Opened

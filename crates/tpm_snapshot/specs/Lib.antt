pub mod Layer
pub mod Restoring

pub mod Answering
pub mod Commands
pub mod Lines
pub mod Running
pub mod Settings

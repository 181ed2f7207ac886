pub mod Commands
pub mod Limits
pub mod Salvaging
pub mod Seeds

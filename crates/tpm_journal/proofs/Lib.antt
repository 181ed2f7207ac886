pub mod Repeating
pub mod ReadHeads
pub mod Again
pub mod Histories
pub mod Drawing
pub mod Ignoring
pub mod Commands
pub mod Starts

pub mod Refusals
pub mod Answering
pub mod DecodingLaws
pub mod Accepting
pub mod Running
pub mod Histories
pub mod Modesty
pub mod Placing
pub mod Following
mod Nonces

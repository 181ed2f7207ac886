mod Asserting
mod Astride
pub mod Chains
mod Examples
pub mod Meaning
pub mod Sessions
mod Spelled
mod Trial

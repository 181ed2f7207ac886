pub mod Assertions
pub mod CpHash
pub mod Nonces

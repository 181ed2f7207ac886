pub mod DigestSize
pub mod Filling
pub mod Blocks

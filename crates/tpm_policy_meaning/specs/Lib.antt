pub mod Expression
pub mod PolicyDigest
pub mod Asserted
pub mod Meaning
pub mod Trial
pub mod Examples

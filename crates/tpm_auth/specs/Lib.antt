pub mod Entries
pub mod Comparison
pub mod SessionGrant
pub mod Used
pub mod EmptyHmac
pub mod Grant
pub mod Granting

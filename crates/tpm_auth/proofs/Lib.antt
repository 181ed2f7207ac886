pub mod Asking
pub mod EmptyHmac
pub mod Granting
pub mod Resolving

pub mod ResponseCode
pub mod Form
pub mod Wanted

pub mod Secrecy
pub mod Reads
pub mod Alike

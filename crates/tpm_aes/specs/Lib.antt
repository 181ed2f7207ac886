pub mod Cfb
pub mod Cipher
pub mod Field
pub mod Tables
pub mod Words

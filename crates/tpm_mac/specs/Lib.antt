pub mod Digest
pub mod Hasher
pub mod Hmac
pub mod Kdf
pub mod Mac
pub use Rattle.arrayvec.specs.ArrayVec
pub use Rattle.sha1.specs.Sha1
pub use Rattle.sha2.specs.Sha256

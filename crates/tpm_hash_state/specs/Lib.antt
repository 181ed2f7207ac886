pub mod State
pub mod Hmac
pub mod Meaning
pub use Rattle.tpm_mac.specs.Digest
pub use Rattle.sha1.specs.Sha1
pub use Rattle.sha2.specs.Sha256

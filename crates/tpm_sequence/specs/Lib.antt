pub mod Beginning
pub mod Authorization
pub mod Sequence
pub mod Meaning
pub use Rattle.tpm_hash_state.specs.State
pub use Rattle.tpm_hash_state.specs.Hmac

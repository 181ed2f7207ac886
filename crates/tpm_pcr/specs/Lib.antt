pub mod Values
pub mod Banks
pub mod Changes
pub mod Saved
pub use Rattle.tpm_types_common.specs.Pcr
pub use Rattle.tpm_types_common.specs.DigestList
pub use Rattle.tpm_mac.specs.Digest

pub mod Name
pub use Rattle.tpm_mac.specs.Digest
pub use Rattle.tpm_types_common.specs.Algorithm
pub use Rattle.tpm_types_common.specs.Handle

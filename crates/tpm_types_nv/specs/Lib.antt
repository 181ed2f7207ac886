pub mod NvType
pub mod NvAttributes
pub mod AreNvAttributes
pub mod NvPublic
pub use Rattle.tpm_bytes.specs.Reading
pub use Rattle.tpm_bytes.specs.Writing
pub use Rattle.tpm_types_common.specs.Filled

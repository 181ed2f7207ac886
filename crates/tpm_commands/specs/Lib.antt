pub mod Shape
pub mod Part
pub mod CommandFacts
pub mod CommandCode
pub mod SymmetricCommands
pub mod HandleArea
pub use Rattle.tpm_bytes.specs.Reading
pub use Rattle.tpm_types_common.specs.Handle

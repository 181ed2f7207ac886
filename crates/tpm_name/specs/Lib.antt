pub mod ObjectName
pub mod NvName
pub use Rattle.tpm_types_name.specs.Name
pub use Rattle.tpm_types_object.specs.Public
pub use Rattle.tpm_types_nv.specs.NvPublic

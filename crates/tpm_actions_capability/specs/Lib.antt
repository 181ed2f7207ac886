pub mod Element
pub mod Elements
pub mod Algorithms
pub mod PcrProperties
pub mod Properties
pub mod GetCapability
pub mod Symmetric
pub use Rattle.tpm_record.specs.rows.Rows

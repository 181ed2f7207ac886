pub mod step
pub mod rows
pub mod history
pub mod uses
pub use Rattle.tpm_record.specs.Record
pub use Rattle.tpm_record.specs.IsRecord
pub use Rattle.tpm_record.specs.Tick
pub use Rattle.tpm_record.specs.Cycle

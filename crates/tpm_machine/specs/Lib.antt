pub mod Authorization
pub mod State
pub mod Latest
pub mod Drawn
pub mod Placing
pub use Rattle.tpm_step.specs.step.Placing as PlacedObjects
pub use Rattle.tpm_step.specs.step.Events
pub use Rattle.tpm_step.specs.step.Step
pub use Rattle.tpm_step.specs.step.Run
pub use Rattle.tpm_step.specs.step.Safe
pub use Rattle.tpm_record.specs.Record
pub use Rattle.tpm_record.specs.IsRecord
pub use Rattle.tpm_step.specs.history.Executions
pub use Rattle.tpm_step.specs.history.Follows
pub use Rattle.tpm_step.specs.history.History

-- The laws of tpm_step about executions and power cycles, restated for crates that refer only to
-- the machine.
pub use Rattle.tpm_step.proofs.history.Following.{cycled_follows, execution_follows, stretch_follows}
pub use Rattle.tpm_step.proofs.step.PowerCycles.{leads_on, power_cycle_executes}

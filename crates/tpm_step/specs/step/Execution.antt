-- The properties of the execution of one event.
use Rattle.std.specs.Prelude.{◌≡◌, ◌≤◌, Bool, false, length}
use Rattle.tpm_types_common.specs.Limits.{response_limit}
use Rattle.tpm_record.specs.IsRecord.{IsRecord}
use Rattle.tpm_record.specs.Record.{Record}
use Rattle.tpm_step.specs.step.Events.{PlainEvent, IsEvent}
use Rattle.tpm_step.specs.step.Safe.{AcceptsModestly, IsHarmless}
use Rattle.tpm_step.specs.step.Step.{Stepped, Steps, step}

-- The event was executed on the old record. Its outcome x contains the response, the row and the
-- new record. The event can occur. The outcome is what `step` defines; but if an allocation can
-- fail, a command that may allocate can return MEMORY instead of succeeding. The new record
-- satisfies the invariant of all records. A refusal only adds the elapsed time to the record, and
-- changes the lockout state if it counts as a failed try or disables lockoutAuth. A success draws
-- few random bytes and has a short answer. No response is longer than the limit.
pub record Executes (can : Bool) (old : Record) (event : PlainEvent) (x : Stepped) : Type 0 where
  pub happens : IsEvent event
  pub steps : Steps can old event x
  pub exactly : can ≡ false → x ≡ step old event
  pub is_record : IsRecord x.after
  pub harmless : IsHarmless old event x
  pub modest : x.row.check ≡ 0 → AcceptsModestly old event
  pub fits : length x.response ≤ response_limit

-- The parts from which rows are built. A row yields a success or the first refusal.
use Rattle.std.specs.Prelude.{◌≡◌, ℕ, ◌==◌, not, Bool, true, false, List, length, Result, Ok, Err}
use Rattle.tpm_bytes.specs.Reading.{◌>>=◌, refused_if}
use Rattle.tpm_types_common.specs.declared.rc.Rc.{Rc}
use Rattle.tpm_types_common.specs.declared.rc.ResponseCode.TheVariants as code
use Rattle.tpm_types_common.specs.declared.rc.Place.TheVariants as place
use Rattle.tpm_types_common.specs.Rc.{at, plain}
use Rattle.tpm_record.specs.Record.{Record}
use Rattle.tpm_types_common.specs.Refused.{refusal}
use Rattle.tpm_types_common.specs.declared.check.Check.TheVariants as check
use Rattle.tpm_types_common.specs.declared.refused.Refused.{Refused}
use Rattle.tpm_record.specs.rows.Answer.{AnswerParts, IsAnswer}
use Rattle.tpm_record.specs.rows.Refusals.{memory_refusal}
use Rattle.tpm_record.specs.declared.rows.answer.Answer.{Answer}

-- the refusal of the parameter with this number, by check G11
abbrev pub parameter_refusal : ℕ → Rc → Refused
parameter_refusal n rc = refusal check.Parameters (at (place.Parameter n) rc)

-- the value of a parameter and the bytes after it, or the refusal of this parameter if reading it
-- failed
abbrev pub parameter : {X : Type 0} → ℕ → Result X Rc → Result X Refused
parameter n (Ok x) = Ok x
parameter n (Err rc) = Err (parameter_refusal n rc)

-- refuses bytes after the last parameter, as part of check G11
abbrev pub all_read : List ℕ → Result (Unit {0}) Refused
all_read rest = refused_if (not (length rest == 0)) (refusal check.Parameters (plain code.Size))

-- the value of a command's only parameter
abbrev pub only : {X : Type 0} → Result (X × List ℕ) Rc → Result X Refused
only read = do
  p ← parameter 1 read
  ended ← all_read p.1
  Ok p.0

-- the success of a command: its answer, and the record after the command
pub record Success : Type 0 where
  pub answer : AnswerParts
  pub after : Record

-- the success with this answer and an unchanged record
abbrev pub unchanged_success : Record → AnswerParts → Success
unchanged_success r answer = record { answer = answer; after = r }

-- A command that may allocate did what its row says: it changed the record and returned the answer,
-- or it was refused. If an allocation can fail, a command that would succeed may have been refused
-- with MEMORY. A refusal does not change the record. After a refusal of any command, the content of
-- the answer is unspecified: it may contain part of a success's answer. The response to a refused
-- command depends only on the refusal.
abbrev pub ActsIfRoom : Bool → Result Success Refused
    → Record → Result (Unit {0}) Refused → Answer → Record → Type 0
ActsIfRoom can (Ok s) old (Ok done) answer new = IsAnswer s.answer answer × (new ≡ s.after)
ActsIfRoom can (Ok s) old (Err e) answer new =
    (can ≡ true) × (e ≡ memory_refusal) × (new ≡ old)
ActsIfRoom can (Err refused) old (Ok done) answer new = ⊥
ActsIfRoom can (Err refused) old (Err e) answer new = (e ≡ refused) × (new ≡ old)

-- A command that allocates nothing changed the record and returned the answer as its row says, or
-- was refused. A refusal does not change the record, and the content of the answer is then
-- unspecified.
abbrev pub Acts : Result Success Refused
    → Record → Result (Unit {0}) Refused → Answer → Record → Type 0
Acts row old result answer new = ActsIfRoom false row old result answer new

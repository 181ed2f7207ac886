-- Results that look the same: both are the same refusal, or both are successes with the same
-- visible part.
use Rattle.std.specs.Prelude.{Err, Ok, Result, ◌≡◌}
use Rattle.tpm_record.specs.rows.Rows.{Success}
use Rattle.tpm_types_common.specs.declared.refused.Refused.{Refused}
use Rattle.tpm_row_secrecy.specs.Secrecy.{Secrecy, without_secrets}

-- a result in which a success is replaced by its visible part
abbrev pub outcome : {A B E : Type 0} → (A → B) → Result A E → Result B E
outcome see (Ok a) = Ok (see a)
outcome see (Err e) = Err e

-- Two results are the same refusal, or two successes with the same visible part.
pub record Alike {A B E : Type 0} (see : A → B) (x y : Result A E) : Type 0 where
  pub is : outcome see x ≡ outcome see y

-- a success, with the secrets erased from the record after it
abbrev pub bare_success : Secrecy → Success → Success
bare_success s x = record { answer = x.answer; after = without_secrets s x.after }

-- Two results of rows are the same refusal, or have the same answer and leave records that differ
-- only in secrets.
abbrev pub Same : Secrecy → Result Success Refused → Result Success Refused → Type 0
Same s x y = Alike (bare_success s) x y

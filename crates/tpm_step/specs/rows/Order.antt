-- The order of a row's refusals, and whether they count as failed tries.
use Rattle.std.specs.Prelude.{◌≡◌, ◌⊎◌, ℕ, List, Result, Ok, Err, IfErr}
use Rattle.tpm_types_common.specs.declared.check.Check.{Check}
use Rattle.tpm_types_common.specs.declared.check.Check.TheVariants as check
use Rattle.tpm_types_common.specs.declared.handle.Handle.{Handle}
use Rattle.tpm_types_common.specs.declared.refused.Counted.TheVariants as counted
use Rattle.tpm_types_common.specs.declared.refused.Refused.{Refused}
use Rattle.tpm_commands.specs.declared.shape.HandleRule.{HandleRule}
use Rattle.tpm_commands.specs.declared.shape.ParameterKind.{ParameterKind}
use Rattle.tpm_record.specs.Record.{Record}
use Rattle.tpm_step.specs.rows.Handles.{HandlesFit}
use Rattle.tpm_step.specs.rows.Shapes.{parameters_check}

-- A check is late if it comes after the row has parsed its parameters. The late checks are the
-- command's own checks and, if the handles do not fit, the check of handles.
abbrev pub IsLate : Type 0 → Check → Type 0
IsLate Fit (check.Action own) = Unit {0}
IsLate Fit check.Handles = Fit → ⊥
IsLate Fit _ = ⊥

-- If the row refuses, the failed check is late (`IsLate`).
abbrev pub Late : {X : Type 0} → Type 0 → Result X Refused → Type 0
Late Fit row = IfErr row (λ e. IsLate Fit e.check)

-- The row may refuse in three ways: by the check of handles, if a handle does not fit its rule;
-- with the fault of the parameters; or by a late check, if all parameters could be parsed.
abbrev pub IsInPlace : Type 0 → Result (Unit {0}) Refused → Refused → Type 0
IsInPlace Fit spelling e =
    ((e.check ≡ check.Handles) × (Fit → ⊥))
    ⊎ ((spelling ≡ Err e) ⊎ ((spelling ≡ Ok tt) × IsLate Fit e.check))

-- A row succeeds only if its parameters could be parsed, and refuses in the order of its checks.
abbrev pub InOrder : {X : Type 0} → Type 0 → Result (Unit {0}) Refused → Result X Refused → Type 0
InOrder Fit spelling (Ok x) = spelling ≡ Ok tt
InOrder Fit spelling (Err e) = IsInPlace Fit spelling e

-- The row of a command with these handle rules and these kinds of parameters reports refusals in
-- the order of its checks. `row` may also be the rest of a row after some of its steps.
pub record Orders {X : Type 0} (device : Record) (rules : List HandleRule) (handles : List Handle)
    (kinds : List ParameterKind) (text : List ℕ) (row : Result X Refused) : Type 0 where
  pub order : InOrder (HandlesFit device rules handles) (parameters_check 1 kinds text) row

-- The refusal neither counts as a failed try nor disables lockoutAuth.
abbrev pub IsPlain : Refused → Type 0
IsPlain e = e.counted ≡ counted.None

-- The result is not a refusal that counts as a failed try or disables lockoutAuth.
abbrev pub Plain : {X : Type 0} → Result X Refused → Type 0
Plain result = IfErr result IsPlain

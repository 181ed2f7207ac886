-- The first and the second handle of a command fit their rules.
use Rattle.std.proofs.Common.{◌≡◌, List, [], ◌∷◌, Ok, subst}
use Rattle.tpm_bytes.proofs.Fields.{ok_is}
use Rattle.tpm_types_common.specs.declared.handle.Handle.{Handle}
use Rattle.tpm_commands.specs.declared.shape.HandleRule.{HandleRule}
use Rattle.tpm_record.specs.Record.{Record}
use Rattle.tpm_record.specs.rows.Request.{first_handle, second_handle}
use Rattle.tpm_step.specs.rows.Handles.{FitsRule, HandlesFit}

pub first_fits : (r : Record) (rule : HandleRule) (rules : List HandleRule) (handles : List Handle)
    (handle : Handle) → HandlesFit r (rule ∷ rules) handles → first_handle handles ≡ Ok handle
    → FitsRule r rule handle
first_fits r rule rules [] handle fits is = absurd fits
first_fits r rule rules (first ∷ handles) handle fits is =
    subst (FitsRule r rule) (ok_is first handle is) fits.0

pub second_fits : (r : Record) (one rule : HandleRule) (rules : List HandleRule)
    (handles : List Handle) (handle : Handle) → HandlesFit r (one ∷ rule ∷ rules) handles
    → second_handle handles ≡ Ok handle → FitsRule r rule handle
second_fits r one rule rules [] handle fits is = absurd fits
second_fits r one rule rules (first ∷ []) handle fits is = absurd fits.1
second_fits r one rule rules (first ∷ second ∷ handles) handle fits is =
    subst (FitsRule r rule) (ok_is second handle is) fits.1.0

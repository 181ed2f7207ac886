-- If a row reports no failed check, its command was accepted.
use Rattle.std.proofs.Common.{arith, ◌≡◌, ℕ, Bool, true, false, List, Result, Ok, Err, IfOk, refl, ap, sym, ◌∙◌}
use Rattle.tpm_record.specs.Record.{Record}
use Rattle.tpm_record.specs.Tick.{after_tick}
use Rattle.tpm_types_common.specs.Check.{check_number}
use Rattle.tpm_types_common.specs.declared.check.Check.{Check}
use Rattle.tpm_types_common.specs.declared.check.Check.TheVariants as check
use Rattle.tpm_step.specs.step.Events.{PlainEvent, Given, Cycled, Placed}
use Rattle.tpm_step.specs.step.Safe.{AcceptsModestly, IsModest, IsModestIfAccepted}
use Rattle.tpm_step.specs.step.Step.{Accepted, Stepped, Steps, acceptance_in, answer_where}
use Rattle.tpm_step.specs.declared.refused_command.RefusedCommand.{RefusedCommand}

check_some : (c : Check) → check_number c ≡ 0 → ⊥
check_some check.Length zero = absurd cc
check_some check.Tag zero = absurd cc
check_some check.Size zero = absurd cc
check_some check.Code zero = absurd cc
check_some check.Started zero = absurd cc
check_some check.Handles zero = absurd cc
check_some check.Sessions zero = absurd cc
check_some check.Entries zero = absurd cc
check_some check.Authorization zero = absurd cc
check_some check.Others zero = absurd cc
check_some check.Parameters zero = absurd cc
check_some (check.Action a) zero = omega (arith, zero)
check_some check.Memory zero = absurd cc

is_accepted : (refused : Bool) (t : Record) (random : List ℕ) (a : Result Accepted RefusedCommand)
    → (answer_where refused t random a).row.check ≡ 0 → IfOk a (IsModest random)
    → (b : Accepted) × (a ≡ Ok b) × IsModest random b
is_accepted refused t random (Ok a) zero modest = (a, refl, modest)
is_accepted false t random (Err e) zero modest = absurd (check_some e.refused.check zero)
is_accepted true t random (Err e) zero modest = absurd (check_some e.refused.check zero)

pub accepts_modestly : (can : Bool) (r : Record) (event : PlainEvent) (x : Stepped)
    → Steps can r event x → x.row.check ≡ 0 → IsModestIfAccepted r event → AcceptsModestly r event
accepts_modestly can r Cycled x steps zero modest = tt
accepts_modestly can r (Placed object) x steps zero modest = tt
accepts_modestly can r (Given buffer locality elapsed random) x (refused, only, is) zero modest =
    let t = after_tick r elapsed in
    is_accepted refused t random (acceptance_in t buffer locality random)
    (ap (λ (s : Stepped). s.row.check) (sym is) ∙ zero) modest

-- No decrement of failedTries is overdue (`IsForgiving`), whatever a device accepts and refuses.
use Rattle.std.proofs.Common.{arith, ◌≡◌, ◌≢◌, ℕ, Bool, true, false, List, IfOk, refl, sym, ap, subst}
use Rattle.std.proofs.lemmas.Bool.{false≢true}
use Rattle.tpm_lockout.specs.Lockout.{LockoutState}
use Rattle.tpm_types_common.specs.declared.refused.Counted.{Counted}
use Rattle.tpm_commands.specs.declared.command_code.CommandCode.{CommandCode}
use Rattle.tpm_commands.specs.declared.command_code.CommandCode.TheVariants as command
use Rattle.tpm_record.specs.Cycle.{after_cycle}
use Rattle.tpm_record.specs.Record.{Record, manufactured}
use Rattle.tpm_record.specs.Tick.{after_tick}
use Rattle.tpm_record.specs.rows.Request.{Request}
use Rattle.tpm_record.specs.rows.Rows.{all_read}
use Rattle.tpm_actions_device.specs.DictionaryAttackLockReset.{dictionary_attack_lock_reset_row}
use Rattle.tpm_actions_device.specs.DictionaryAttackParameters.{dictionary_attack_parameters_row, lockout_parameters}
use Rattle.tpm_step.specs.step.Step.{Accepted, counted_in, success_step}
use Rattle.tpm_step.specs.step.Table.{row_of}
use Rattle.tpm_step.proofs.rows.Binding.{ok_at, ok_bind, ok_weaker}
use Rattle.tpm_step.proofs.rows.Table.{row_touches}
use Rattle.tpm_step.proofs.rows.Leaving.{success_leaves}
use Rattle.tpm_step.specs.rows.Acceptance.{IsAcceptance}
use Rattle.tpm_step.specs.rows.Footprint.{Touches}
use Rattle.tpm_commands.specs.Part.{Part, AuthValues, Lockout, Beginning, Cleared}
use Rattle.tpm_commands.specs.CommandCode.{part_of}
use Rattle.tpm_step.specs.history.Potential.{IsForgiving}
use Rattle.tpm_step.specs.history.Tries.{resets_tries}
use Rattle.tpm_step.proofs.history.Balance.{SameTries, closed_same, refusal_forgives, same_forgives, tick_forgives}

-- ---- rows that leave the failed tries unchanged

abbrev leaves_tries : Part → Bool
leaves_tries Lockout = false
leaves_tries Cleared = false
leaves_tries _ = true

same_part : (p : Part) (old new : Record) → leaves_tries p ≡ true → Touches p old new
    → SameTries old.fixed.lockout new.fixed.lockout
same_part Lockout old new leaves touches = absurd (false≢true leaves)
same_part Cleared old new leaves touches = absurd (false≢true leaves)
same_part AuthValues old new leaves touches =
    closed_same old.fixed.lockout new.fixed.lockout old.fixed.lockout.fields.closed
    (ap (λ (r : Record). r.fixed.lockout) touches.0)
same_part Beginning old new leaves touches =
    closed_same old.fixed.lockout new.fixed.lockout new.fixed.lockout.fields.closed
    (ap (λ (r : Record). r.fixed.lockout) touches.0)
same_part _ old new leaves touches =
    closed_same old.fixed.lockout new.fixed.lockout old.fixed.lockout.fields.closed
    (ap (λ (r : Record). r.fixed.lockout) touches)

leaves_if : (code : CommandCode) → resets_tries code ≡ false → leaves_tries (part_of code) ≡ true
leaves_if command.DictionaryAttackLockReset is = absurd (false≢true (sym is))
leaves_if command.DictionaryAttackParameters is = absurd (false≢true (sym is))
leaves_if command.Clear is = absurd (false≢true (sym is))
leaves_if _ is = refl

leaving_row : (r : Record) (code : CommandCode) (q : Request) → resets_tries code ≡ false
    → IfOk (row_of r code q) (λ s. SameTries r.fixed.lockout s.after.fixed.lockout)
leaving_row r code q quiet =
    ok_weaker (λ s. Touches (part_of code) r s.after)
    (λ s. SameTries r.fixed.lockout s.after.fixed.lockout) (row_of r code q)
    (row_touches r code q)
    (λ s touches. same_part (part_of code) r s.after (leaves_if code quiet) touches)

-- an accepted command that is not a reset leaves failedTries unchanged
pub same_done : (r : Record) (a : Accepted) (locality : ℕ) (random : List ℕ)
    → IsAcceptance r locality random a → resets_tries a.command.code ≡ false
    → SameTries r.fixed.lockout (success_step a random).after.fixed.lockout
same_done r a locality random is quiet =
    subst (λ (s : LockoutState). SameTries r.fixed.lockout s)
    (sym (ap (λ (x : Record). x.fixed.lockout) (success_leaves a random)))
    (ok_at (λ s. SameTries r.fixed.lockout s.after.fixed.lockout)
    (row_of r a.command.code a.request) a.success
    (leaving_row r a.command.code a.request quiet) is.row)

-- ---- rows that reset the failed tries

clear_forgives : (r : Record) (q : Request) → IsForgiving r.fixed.lockout
    → IfOk (row_of r command.Clear q) (λ s. IsForgiving s.after.fixed.lockout)
clear_forgives r q is =
    ok_weaker (λ s. Touches Cleared r s.after) (λ s. IsForgiving s.after.fixed.lockout)
    (row_of r command.Clear q) (row_touches r command.Clear q)
    (λ s touches. subst IsForgiving (sym (ap (λ (x : Record). x.fixed.lockout) touches)) is)

reset_forgives : (r : Record) (q : Request) → IsForgiving r.fixed.lockout
    → IfOk (row_of r command.DictionaryAttackLockReset q) (λ s. IsForgiving s.after.fixed.lockout)
unfolding row_of dictionary_attack_lock_reset_row
reset_forgives r q is = ok_bind _ (all_read q.parameters) _ (λ ended. is)

parameters_forgive : (r : Record) (q : Request)
    → IfOk (row_of r command.DictionaryAttackParameters q) (λ s. IsForgiving s.after.fixed.lockout)
unfolding row_of dictionary_attack_parameters_row
parameters_forgive r q = ok_bind _ (lockout_parameters q.parameters) _
    (λ p. λ counts. omega (arith, counts))

other_forgives : (r : Record) (code : CommandCode) (q : Request) → resets_tries code ≡ false
    → IsForgiving r.fixed.lockout → IfOk (row_of r code q) (λ s. IsForgiving s.after.fixed.lockout)
other_forgives r code q quiet is =
    ok_weaker _ _ (row_of r code q) (leaving_row r code q quiet)
    (λ s same. same_forgives r.fixed.lockout s.after.fixed.lockout same is)

row_forgives : (r : Record) (code : CommandCode) (q : Request) → IsForgiving r.fixed.lockout
    → IfOk (row_of r code q) (λ s. IsForgiving s.after.fixed.lockout)
row_forgives r command.Clear q is = clear_forgives r q is
row_forgives r command.DictionaryAttackLockReset q is = reset_forgives r q is
row_forgives r command.DictionaryAttackParameters q is = parameters_forgive r q
row_forgives r _ q is = other_forgives r _ q refl is

-- ---- all events

pub forgives_done : (r : Record) (a : Accepted) (locality : ℕ) (random : List ℕ)
    → IsAcceptance r locality random a → IsForgiving r.fixed.lockout
    → IsForgiving (success_step a random).after.fixed.lockout
forgives_done r a locality random is forgives =
    subst IsForgiving (sym (ap (λ (x : Record). x.fixed.lockout) (success_leaves a random)))
    (ok_at (λ s. IsForgiving s.after.fixed.lockout) (row_of r a.command.code a.request) a.success
    (row_forgives r a.command.code a.request forgives) is.row)

pub forgives_ticked : (r : Record) (elapsed : ℕ) → IsForgiving r.fixed.lockout
    → IsForgiving (after_tick r elapsed).fixed.lockout
forgives_ticked r elapsed forgives = tick_forgives r.fixed.lockout elapsed

pub forgives_counted : (r : Record) (counted : Counted) → IsForgiving r.fixed.lockout
    → IsForgiving (counted_in counted r).fixed.lockout
forgives_counted r counted forgives = refusal_forgives r.fixed.lockout counted forgives

pub forgives_cycled : (r : Record) → IsForgiving r.fixed.lockout
    → IsForgiving (after_cycle r).fixed.lockout
forgives_cycled r forgives counts = omega (arith, counts)

pub manufactured_forgives : (random : List ℕ) → IsForgiving (manufactured random).fixed.lockout
manufactured_forgives random counts = omega arith

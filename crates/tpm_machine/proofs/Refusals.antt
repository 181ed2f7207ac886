-- The response to a refused command encodes the refusal. A refusal changes only the time and the
-- lockout state.
use Rattle.std.proofs.Common.{◌≡◌, ◌≢◌, ℕ, List, length, Bool, true, false, cond, Result, Ok, Err, refl, ap, sym, ◌∙◌}
use Rattle.std.proofs.lemmas.Bool.{false≢true}
use Rattle.tpm_types_command.specs.Command.{Whole}
use Rattle.tpm_commands.specs.CommandCode.{code_number, shape_of}
use Rattle.tpm_record.specs.Record.{Record}
use Rattle.tpm_record.specs.Tick.{after_tick}
use Rattle.tpm_types_common.specs.declared.refused.Refused.{Refused}
use Rattle.tpm_types_common.specs.Check.{check_number}
use Rattle.tpm_record.specs.rows.Refusals.{memory_refusal}
use Rattle.tpm_step.specs.step.Answer.{refusal_text}
use Rattle.tpm_step.specs.step.Events.{PlainEvent, Given, Cycled, Placed}
use Rattle.tpm_step.specs.step.General.{in_command}
use Rattle.tpm_step.specs.step.Safe.{IsHarmless}
use Rattle.tpm_step.specs.step.Step.{Accepted, Answers, RefusesOrWantsMemory, Stepped, Steps, refusal_step, acceptance_in, stepped_of, counted_in, refusal_without_memory, answer_where, step, step_where, success_step}
use Rattle.tpm_step.specs.declared.refused_command.RefusedCommand.{RefusedCommand}

-- If the row reports a failed check, the response is the ten bytes of a refusal by this check. The
-- refusal changes only the lockout state of `r`, the record to which the elapsed time was already
-- added.
abbrev LeavesRecord : Record → Stepped → Type 0
LeavesRecord r x = x.row.check ≢ 0 → (length x.response ≡ 10) × (refused : Refused)
    × (x.response ≡ refusal_text refused) × (x.row.check ≡ check_number refused.check)
    × (x.after ≡ counted_in refused.counted r)

answer_leaves : (r : Record) (random : List ℕ) (a : Result Accepted RefusedCommand)
    → LeavesRecord r (stepped_of r random a)
answer_leaves r random (Ok a) refused = absurd (refused refl)
answer_leaves r random (Err e) refused = (refl, e.refused, refl, refl, refl)

-- a response of MEMORY instead of a success also satisfies `LeavesRecord`
success_without_memory_leaves : (grows : Bool) (r : Record) (random : List ℕ) (a : Accepted)
    → LeavesRecord r (cond grows (refusal_without_memory r a.command) (success_step a random))
success_without_memory_leaves true r random a refused = (refl, memory_refusal, refl, refl, refl)
success_without_memory_leaves false r random a refused = absurd (refused refl)

leaves_without_memory : (r : Record) (random : List ℕ) (a : Result Accepted RefusedCommand)
    → LeavesRecord r (answer_where true r random a)
leaves_without_memory r random (Ok a) refused =
    success_without_memory_leaves (shape_of a.command.code).grows r random a refused
leaves_without_memory r random (Err e) refused = (refl, e.refused, refl, refl, refl)

step_harmless : (refused : Bool) (r : Record) (event : PlainEvent)
    → IsHarmless r event (step_where refused r event)
step_harmless false r (Given buffer locality elapsed random) =
    answer_leaves (after_tick r elapsed) random
    (acceptance_in (after_tick r elapsed) buffer locality random)
step_harmless false r Cycled = λ refused. absurd (refused refl)
step_harmless false r (Placed object) = λ refused. absurd (refused refl)
step_harmless true r (Given buffer locality elapsed random) =
    leaves_without_memory (after_tick r elapsed) random
    (acceptance_in (after_tick r elapsed) buffer locality random)
step_harmless true r Cycled = λ refused. absurd (refused refl)
step_harmless true r (Placed object) = λ refused. absurd (refused refl)

pub steps_harmless : (can : Bool) (r : Record) (event : PlainEvent) (x : Stepped)
    → Steps can r event x → IsHarmless r event x
steps_harmless can r event x (refused, only, is) = rw is (step_harmless refused r event)

-- an outcome that equals the event's step satisfies `Steps`, because no allocation failed
pub steps_exactly : (can : Bool) (r : Record) (event : PlainEvent) (x : Stepped) → x ≡ step r event
    → Steps can r event x
steps_exactly can r event x e = (false, λ t. absurd (false≢true t), e)

-- an answer that equals the defined answer satisfies `Answers`, because no allocation failed
pub answers_exactly : (can : Bool) (r : Record) (random : List ℕ)
    (a : Result Accepted RefusedCommand) (x : Stepped) → x ≡ stepped_of r random a
    → Answers can r random a x
answers_exactly can r random a x e = (false, λ t. absurd (false≢true t), e)

grows_without_memory : (grows : Bool) (r : Record) (random : List ℕ) (a : Accepted) → grows ≡ true
    → refusal_without_memory r a.command
    ≡ cond grows (refusal_without_memory r a.command) (success_step a random)
grows_without_memory true r random a e = refl
grows_without_memory false r random a e = absurd (false≢true e)

-- if a command is refused or runs out of memory, the step of that refusal satisfies `Answers`
pub refused_answers : (can : Bool) (r : Record) (random : List ℕ) (c : Whole)
    (a : Result Accepted Refused) (e : Refused) → RefusesOrWantsMemory can c a e
    → Answers can r random (in_command c.code a)
    (refusal_step r (record { code = code_number c.code; refused = e }))
refused_answers can r random c (Err refused) e is = (
  false,
  λ t. absurd (false≢true t),
  ap (λ (f : Refused). refusal_step r (record { code = code_number c.code; refused = f }))
      is,
)
refused_answers can r random c (Ok a) e (may, same, grows, is) = (
  true,
  λ t. may,
  ap (λ (f : Refused). refusal_step r (record { code = code_number c.code; refused = f })) is
      ∙ ap (refusal_without_memory r) (sym same)
      ∙ grows_without_memory (shape_of a.command.code).grows r random a
      (ap (λ (w : Whole). (shape_of w.code).grows) same ∙ grows),
)

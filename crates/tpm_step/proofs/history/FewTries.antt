-- Bounds the number of failed tries in a sequence of events that does not reset failedTries, if
-- recoveryTime is not 0.
use Rattle.std.proofs.Common.{arith, ◌≡◌, ◌≢◌, ◌⊎◌, ℕ, ◌+◌, Bool, true, false, cond, List, [], ◌∷◌, ◌++◌, Result, Ok, Err, IfOk, refl, sym, subst, ap, ◌∙◌, inl, inr}
use Rattle.std.specs.List.{AllByRecursion}
use Rattle.std.proofs.lemmas.Bool.{false≢true}
use Rattle.std.proofs.lemmas.List.Sums.{sum_by-cons}
use Rattle.tpm_lockout.specs.Lockout.{LockoutState, times_restarted}
use Rattle.tpm_lockout.specs.Tries.{is_locked}
use Rattle.tpm_commands.specs.CommandCode.{shape_of}
use Rattle.tpm_commands.specs.declared.command_code.CommandCode.{CommandCode}
use Rattle.tpm_commands.specs.declared.command_code.CommandCode.TheVariants as command
use Rattle.tpm_record.specs.Record.{Record}
use Rattle.tpm_record.specs.Tick.{after_tick}
use Rattle.tpm_step.specs.step.Events.{PlainEvent, Given, Cycled, Placed}
use Rattle.tpm_step.specs.step.Execution.{Executes}
use Rattle.tpm_step.specs.step.Step.{Accepted, Stepped, acceptance_in, answer_where, refusal_without_memory, step_where, success_step}
use Rattle.tpm_step.specs.declared.refused_command.RefusedCommand.{RefusedCommand}
use Rattle.tpm_step.specs.rows.Acceptance.{IsAcceptance}
use Rattle.tpm_step.proofs.rows.Acceptance.{accepted_is}
use Rattle.tpm_step.specs.history.Executions.{Execution, Leads, history_after, with_execution}
use Rattle.tpm_step.specs.history.History.{Done, ObjectPlaced, PastEvent, PowerCycled, extended_history, with_command}
use Rattle.tpm_step.specs.history.Potential.{IsForgiving, Pays}
use Rattle.tpm_step.specs.history.Tries.{FailsFew, FailsWithin, HasNoReset, IsReset, counts_try, elapsed_in, elapsed_of, failures_in, fails_try, is_reset, resets_tries, tries_at_most, tries_within}
use Rattle.tpm_step.proofs.history.Balance.{IsPaid, cycle_pays, few_fail, pays_more, refusal_pays, same_pays, tick_pays}
use Rattle.tpm_step.proofs.history.FailedTries.{try_of, unlocked_of}
use Rattle.tpm_step.proofs.history.Forgiving.{same_done}
use Rattle.tpm_step.proofs.history.Leading.{history_apart}

-- ---- single events

done_pays : (r : Record) (a : Accepted) (locality : ℕ) (random : List ℕ)
    → IsAcceptance r locality random a → HasNoReset (with_command r (Ok a) 0 [])
    → Pays r.fixed.lockout (success_step a random).after.fixed.lockout 0 0
done_pays r a locality random is quiet =
    same_pays r.fixed.lockout (success_step a random).after.fixed.lockout
    (same_done r a locality random is quiet.0)

-- A command that is accepted, or that returns MEMORY instead of succeeding, satisfies `Pays`.
starved_pays : (grows : Bool) (r : Record) (a : Accepted) (locality : ℕ) (random : List ℕ)
    → IsAcceptance r locality random a → let x : Stepped =
    cond grows (refusal_without_memory r a.command) (success_step a random) in HasNoReset
    (with_command r (Ok a) x.row.check []) → Pays r.fixed.lockout x.after.fixed.lockout 0 0
starved_pays true r a locality random is quiet =
    same_pays r.fixed.lockout r.fixed.lockout (refl, refl, refl, refl)
starved_pays false r a locality random is quiet = done_pays r a locality random is quiet

answer_pays : (refused : Bool) (r : Record) (x : Result Accepted RefusedCommand) (locality : ℕ)
    (random : List ℕ) → r.fixed.lockout.fields.recovery_time ≢ 0
    → (counts_try x ≡ true → is_locked r.fixed.lockout.fields ≡ false)
    → IfOk x (IsAcceptance r locality random)
    → HasNoReset (with_command r x (answer_where refused r random x).row.check [])
    → Pays r.fixed.lockout (answer_where refused r random x).after.fixed.lockout
    (cond (counts_try x) 1 0) 0
answer_pays false r (Ok a) locality random counts unlocked is quiet =
    done_pays r a locality random is quiet
answer_pays true r (Ok a) locality random counts unlocked is quiet =
    starved_pays (shape_of a.command.code).grows r a locality random is quiet
answer_pays false r (Err e) locality random counts unlocked is quiet =
    refusal_pays r.fixed.lockout e.refused.counted counts unlocked
answer_pays true r (Err e) locality random counts unlocked is quiet =
    refusal_pays r.fixed.lockout e.refused.counted counts unlocked

-- An event does not change recoveryTime. If the later events satisfy the bound on failed tries,
-- this event and the later events together satisfy the bound.
pub record PaysFor (old new : LockoutState) (fails : Bool) (elapsed : ℕ) : Type 0 where
  pub recovery_time : new.fields.recovery_time ≡ old.fields.recovery_time
  pub more : (failed rest : ℕ) → IsPaid new failed rest
      → IsPaid old (cond fails 1 0 + failed) (elapsed + rest)

step_pays : (refused : Bool) (r : Record) (event : PlainEvent)
    → r.fixed.lockout.fields.recovery_time ≢ 0
    → HasNoReset (extended_history r event (step_where refused r event).row.check [])
    → PaysFor r.fixed.lockout (step_where refused r event).after.fixed.lockout (fails_try r event)
    (elapsed_of event)
step_pays refused r (Given buffer locality elapsed random) counts quiet = record {
  recovery_time = answers.recovery_time ∙ ticks.recovery_time;
  more = λ failed rest paid.
      pays_more r.fixed.lockout t.fixed.lockout 0 (one + failed) (one + failed) elapsed rest
      (elapsed + rest) (omega arith) refl ticks
      (pays_more t.fixed.lockout x.after.fixed.lockout one failed (one + failed) 0 rest rest
      refl (omega arith) answers paid);
}
  where
    t : Record
    t = after_tick r elapsed

    a : Result Accepted RefusedCommand
    a = acceptance_in t buffer locality random

    x : Stepped
    x = answer_where refused t random a

    one : ℕ
    one = cond (counts_try a) 1 0

    ticks : Pays r.fixed.lockout t.fixed.lockout 0 elapsed
    ticks = tick_pays r.fixed.lockout elapsed counts

    answers : Pays t.fixed.lockout x.after.fixed.lockout one 0
    answers =
        answer_pays refused t a locality random (λ none. counts (sym ticks.recovery_time ∙ none))
        (λ tries. unlocked_of (try_of t buffer locality random tries))
        (accepted_is t buffer locality random) quiet
step_pays refused r (Placed object) counts quiet = record {
  recovery_time = refl;
  more = λ failed rest paid. pays_more r.fixed.lockout r.fixed.lockout 0 failed (0 + failed) 0 rest
      (0 + rest) refl refl (same_pays r.fixed.lockout r.fixed.lockout (refl, refl, refl, refl))
      paid;
}
step_pays refused r Cycled counts quiet = record {
  recovery_time = refl;
  more = λ failed rest paid. pays_more r.fixed.lockout (times_restarted r.fixed.lockout) 0 failed
      (0 + failed) 0 rest (0 + rest) refl refl (cycle_pays r.fixed.lockout) paid;
}

execution_pays : (can : Bool) (old : Record) (event : PlainEvent) (x : Stepped)
    → Executes can old event x → old.fixed.lockout.fields.recovery_time ≢ 0
    → HasNoReset (extended_history old event x.row.check [])
    → PaysFor old.fixed.lockout x.after.fixed.lockout (fails_try old event) (elapsed_of event)
execution_pays can old event x executes counts quiet =
    let (refused, only, is) = executes.steps in
    let stepped = step_pays refused old event counts
    (subst (λ (y : Stepped). HasNoReset (extended_history old event y.row.check [])) is
    quiet) in
    subst (λ (y : Stepped). PaysFor old.fixed.lockout y.after.fixed.lockout (fails_try old event)
    (elapsed_of event)) (sym is) stepped

-- ---- sequences of events

all_parts : {X : Type 0} (P : X → Type 0) (xs ys : List X) → AllByRecursion P (xs ++ ys)
    → AllByRecursion P xs × AllByRecursion P ys
all_parts P [] ys all = (tt, all)
all_parts P (x ∷ xs) ys all = let rest = all_parts P xs ys all.1 in ((all.0, rest.0), rest.1)

quiet_parts : (one : Execution) (executions : List Execution)
    → HasNoReset (history_after [] (one ∷ executions)) → HasNoReset (history_after [] executions)
    × HasNoReset (with_execution one [])
quiet_parts one executions quiet =
    all_parts (λ (p : PastEvent). is_reset p ≡ false) (history_after [] executions)
    (with_execution one [])
    (subst HasNoReset (history_apart executions (with_execution one [])) quiet)

all_paid : (can : Bool) (old : Record) (executions : List Execution) (new : Record)
    → Leads can old executions new → HasNoReset (history_after [] executions)
    → old.fixed.lockout.fields.recovery_time ≢ 0
    → IsPaid old.fixed.lockout (failures_in executions) (elapsed_in executions)
all_paid can old [] new leads quiet counts = inl refl
all_paid can old (one ∷ executions) new (first, executes, rest) quiet counts =
    let parts = quiet_parts one executions quiet in
    let pays = execution_pays can old one.event one.seen executes counts
    (subst (λ (r : Record). HasNoReset (extended_history r one.event one.seen.row.check []))
    first parts.1) in
    let paid = all_paid can one.seen.after executions new rest parts.0
    (λ none. counts (sym pays.recovery_time ∙ none)) in
    rw (
      sum_by-cons (λ (one : Execution). cond (fails_try one.before one.event) 1 0) one executions,
      sum_by-cons (λ (one : Execution). elapsed_of one.event) one executions,
    )
    (subst (λ (r : Record). IsPaid old.fixed.lockout
    (cond (fails_try r one.event) 1 0 + failures_in executions)
    (elapsed_of one.event + elapsed_in executions)) (sym first)
    (pays.more (failures_in executions) (elapsed_in executions) paid))

pub fails_within : (can : Bool) (old : Record) (executions : List Execution) (new : Record)
    → IsForgiving old.fixed.lockout → FailsWithin can old executions new
fails_within can old executions new is leads quiet counts =
    few_fail old.fixed.lockout (failures_in executions) (elapsed_in executions) counts is
    (all_paid can old executions new leads quiet counts)

pub fails_few : (can : Bool) (old : Record) (executions : List Execution) (new : Record)
    → IsForgiving old.fixed.lockout → FailsFew can old executions new
fails_few can old executions new is leads quiet counts =
    omega (arith, fails_within can old executions new is leads quiet counts)

pub one_more : (old : Record) (executions : List Execution)
    → tries_at_most old executions ≡ tries_within old executions + 1
one_more old executions = omega arith

-- ---- commands other than resets

code_resets : (code : CommandCode) → resets_tries code ≡ true
    → (code ≡ command.DictionaryAttackLockReset) ⊎ (code ≡ command.DictionaryAttackParameters)
    ⊎ (code ≡ command.Clear)
code_resets command.DictionaryAttackLockReset is = inl refl
code_resets command.DictionaryAttackParameters is = inr (inl refl)
code_resets command.Clear is = inr (inr refl)
code_resets _ is = absurd (false≢true is)

pub resets_so : (one : PastEvent) → is_reset one ≡ true → IsReset one
resets_so (Done c) is = record { accepted = c; is = refl; code = code_resets c.command.code is }
resets_so PowerCycled is = absurd (false≢true is)
resets_so (ObjectPlaced at object) is = absurd (false≢true is)

pub reset_is : (one : PastEvent) → IsReset one → is_reset one ≡ true
reset_is one r = ap is_reset r.is ∙ by r.code
  where
    by : (r.accepted.command.code ≡ command.DictionaryAttackLockReset)
        ⊎ (r.accepted.command.code ≡ command.DictionaryAttackParameters)
        ⊎ (r.accepted.command.code ≡ command.Clear) → resets_tries r.accepted.command.code ≡ true
    by (inl is) = ap resets_tries is
    by (inr (inl is)) = ap resets_tries is
    by (inr (inr is)) = ap resets_tries is

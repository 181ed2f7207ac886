-- Lemmas about executions that lead from one history to another.
use Rattle.std.proofs.Common.{◌≡◌, ℕ, zero, suc, Bool, List, [], ◌∷◌, ◌++◌, append_assoc, Option, Some, None, Result, Ok, Err, refl, sym, ap, subst, ◌∙◌}
use Rattle.tpm_object.specs.declared.object.Object.{Object}
use Rattle.tpm_types_common.specs.declared.handle.Handle.{Handle}
use Rattle.tpm_record.specs.Objects.{next_handle}
use Rattle.tpm_record.specs.Record.{Record}
use Rattle.tpm_record.specs.Tick.{after_tick}
use Rattle.tpm_step.specs.step.Events.{PlainEvent, Given, Cycled, Placed}
use Rattle.tpm_step.specs.step.Execution.{Executes}
use Rattle.tpm_step.specs.step.Step.{Accepted, Stepped, acceptance_in}
use Rattle.tpm_step.specs.declared.refused_command.RefusedCommand.{RefusedCommand}
use Rattle.tpm_step.specs.history.Executions.{Execution, Leads, history_after, with_execution}
use Rattle.tpm_step.specs.history.History.{History, extended_history, with_command, with_placed}

-- ---- the part of a history that was added to an earlier history

command_apart : (r : Record) (x : Result Accepted RefusedCommand) (check : ℕ) (history : History)
    → with_command r x check history ≡ with_command r x check [] ++ history
command_apart r (Ok a) zero history = refl
command_apart r (Ok a) (suc check) history = refl
command_apart r (Err e) check history = refl

placed_apart : (handle : Option Handle) (object : Object) (history : History)
    → with_placed handle object history ≡ with_placed handle object [] ++ history
placed_apart (Some handle) object history = refl
placed_apart None object history = refl

recorded_apart : (r : Record) (event : PlainEvent) (check : ℕ) (history : History)
    → extended_history r event check history ≡ extended_history r event check [] ++ history
recorded_apart r (Given buffer locality elapsed random) check history =
    let t = after_tick r elapsed in command_apart t (acceptance_in t buffer locality random)
    check
    history
recorded_apart r Cycled check history = refl
recorded_apart r (Placed object) check history = placed_apart (next_handle r.objects) object history

execution_apart : (one : Execution) (history : History)
    → with_execution one history ≡ with_execution one [] ++ history
execution_apart one history = recorded_apart one.before one.event one.seen.row.check history

all_apart : (executions : List Execution) (new old : History)
    → history_after (new ++ old) executions ≡ history_after new executions ++ old
all_apart [] new old = refl
all_apart (one ∷ executions) new old =
    ap (λ h. history_after h executions)
    (execution_apart one (new ++ old) ∙ sym (append_assoc (with_execution one []) new old)
    ∙ ap (λ h. h ++ old) (sym (execution_apart one new)))
    ∙ all_apart executions (with_execution one new) old

pub history_apart : (executions : List Execution) (history : History)
    → history_after history executions ≡ history_after [] executions ++ history
history_apart executions history = all_apart executions [] history

-- ---- properties that each execution preserves

pub leads_keep : (Follows : Record → History → Type 0)
    → ((can : Bool) (old : Record) (event : PlainEvent) (x : Stepped) (history : History)
    → Executes can old event x → Follows old history
    → Follows x.after (extended_history old event x.row.check history))
    → (can : Bool) (old : Record) (executions : List Execution) (new : Record) (history : History)
    → Leads can old executions new → Follows old history
    → Follows new (history_after history executions)
leads_keep Follows kept can old [] new history leads follows =
    subst (λ r. Follows r history) (sym leads) follows
leads_keep Follows kept can old (one ∷ executions) new history leads follows =
    leads_keep Follows kept can one.seen.after executions new (with_execution one history) leads.2
    (subst (λ r. Follows one.seen.after (extended_history r one.event one.seen.row.check history))
    (sym leads.0)
    (kept can old one.event one.seen history leads.1 follows))

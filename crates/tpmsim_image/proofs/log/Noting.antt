-- The entry that a log writes is the entry of the latest execution.
use Rattle.std.proofs.Common.{◌≡◌, ℕ, Option, sym, ap, ◌∙◌, subst}
use Rattle.tpm_machine.specs.Executions.{Execution}
use Rattle.tpm_journal_text.specs.Entry.{PlainEntry}
use Rattle.tpmsim_image.specs.log.Executed.{entry_by, entry_in}
use Rattle.tpmsim_image.specs.log.Log.{Adds, AddsSome, Written}
use Rattle.tpm_machine.specs.Drawn.{drawn_by}
use Rattle.tpm_record.specs.Record.{Record}
use Rattle.tpm_machine.specs.Latest.{IsLatest}
use Rattle.tpm_step.specs.step.Events.{PlainEvent}
use Rattle.tpm_step.specs.step.Step.{Stepped}
use Rattle.tpm_step.specs.declared.event.Outcome.{Outcome}

entry_latest : (now : Record) (drawn : ℕ) (event : PlainEvent) (outcome : Outcome) (one : Execution)
    → IsLatest now drawn event outcome one
    → entry_in one ≡ entry_by event drawn outcome.response.items
entry_latest now drawn event outcome one latest =
    ap (λ (e : PlainEvent). entry_by e (drawn_by one.before one.event one.seen.row.check)
    one.seen.response) latest.event_is
    ∙ ap (λ (n : ℕ). entry_by event n one.seen.response) (sym latest.drawn_is)
    ∙ ap (λ (x : Stepped). entry_by event drawn x.response) latest.seen_is

pub adds_latest : (now : Record) (drawn : ℕ) (event : PlainEvent) (outcome : Outcome)
    (one : Execution) (old new : Written) → IsLatest now drawn event outcome one
    → AddsSome old (entry_by event drawn outcome.response.items) new → Adds old one new
adds_latest now drawn event outcome one old new latest adds =
    subst (λ (o : Option PlainEntry). AddsSome old o new)
    (sym (entry_latest now drawn event outcome one latest)) adds

-- A device has the counters that its history determines. Therefore no counter goes down until an
-- index is defined again with the counter's handle.
use Rattle.std.proofs.Common.{◌≡◌, ℕ, List, [], ◌∷◌, ◌++◌, append_assoc, refl, sym, ap, subst, ◌∙◌}
use Rattle.tpm_containers.specs.SortedMap.{Ascends}
use Rattle.tpm_types_common.specs.declared.handle.Handle.{Handle}
use Rattle.tpm_nv.specs.Index.{NvIndex}
use Rattle.tpm_record.specs.Record.{Record, manufactured}
use Rattle.tpm_step.specs.step.Step.{Accepted, success_step}
use Rattle.tpm_step.specs.step.Table.{row_of}
use Rattle.tpm_step.specs.rows.Acceptance.{IsAcceptance}
use Rattle.tpm_step.proofs.rows.Binding.{ok_at}
use Rattle.tpm_step.proofs.rows.Leaving.{success_leaves}
use Rattle.tpm_step.specs.history.Counters.{Counters, count_at, counters_by, counters_of}
use Rattle.tpm_step.specs.history.DeviceCounters.{AreCounted, BeginsAbove, ExceedsEarlier, HasCounters, KeepsCounter}
use Rattle.tpm_step.specs.history.History.{Done, History, command_of}
use Rattle.tpm_step.proofs.history.CountedIndices.{row_counts}
use Rattle.tpm_step.proofs.history.CountLaws.{count_laws}
use Rattle.tpm_step.proofs.history.Indices.{some_none}

pub counters_done : (r : Record) (a : Accepted) (locality : ℕ) (random : List ℕ) (history : History)
    → IsAcceptance r locality random a → Ascends r.nv.indices → HasCounters r history
    → HasCounters (success_step a random).after (Done (command_of r a) ∷ history)
counters_done r a locality random history is up has =
    subst (λ nv. AreCounted nv c) (sym (ap (λ (x : Record). x.nv) (success_leaves a random)))
    (ok_at (λ s. AreCounted s.after.nv c) (row_of r a.command.code a.request) a.success
    (row_counts r a.command.code a.request (counters_of history) up has) is.row)
  where
    c : Counters
    c = counters_by a.command.code a.request (counters_of history)

pub manufactured_counters : (random : List ℕ) → HasCounters (manufactured random) []
manufactured_counters random =
    record { most = refl; each = λ handle index there. absurd (some_none index there) }

pub keeps_counter : (old new : Record) (history meanwhile : History) (handle : Handle)
    (before after : NvIndex) → HasCounters old history → HasCounters new (meanwhile ++ history)
    → KeepsCounter old new meanwhile handle before after
keeps_counter old new history meanwhile handle before after had has found counter there still stays
    n some =
    let was = had.each handle before found counter in
    let is = has.each handle after there still in
    let (m, at, up) = count_laws.never_down history meanwhile handle n (sym was.value ∙ some)
    stays in
    (m, is.value ∙ at, up)

pub begins_above : (old new : Record) (history meanwhile : History) (handle : Handle)
    (before after : NvIndex) → HasCounters old history → HasCounters new (meanwhile ++ history)
    → BeginsAbove old new history handle before after
begins_above old new history meanwhile handle before after had has found counter none there still n
    some =
    let was = had.each handle before found counter in
    let is = has.each handle after there still in
    count_laws.first_exceeds history meanwhile handle n (sym was.value ∙ none) (sym is.value ∙ some)

pub exceeds_earlier : (new : Record) (history meanwhile : History) (handle : Handle)
    (after : NvIndex) → HasCounters new (meanwhile ++ history)
    → ExceedsEarlier new history meanwhile handle after
exceeds_earlier new history meanwhile handle after has earlier later definition parts defines there
    still n some =
    let is = has.each handle after there still in
    let whole : meanwhile ++ history ≡ later ++ definition ∷ (earlier ++ history) =
    ap (λ (h : History). h ++ history) parts
    ∙ append_assoc later (definition ∷ earlier) history in
    count_laws.defined_exceeds (earlier ++ history) later definition handle n defines
    (ap (λ (h : History). count_at h handle) (sym whole) ∙ sym is.value ∙ some)

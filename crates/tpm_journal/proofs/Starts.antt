-- For each kind of head, the journal that starts with it.
use Rattle.std.proofs.Common.{◌≡◌, ℕ, List, ◌++◌, Result, Ok, ap, ◌∙◌}
use Rattle.std.specs.List.{AllByRecursion}
use Rattle.tpm_completion.specs.declared.completion.Completion.{Completion}
use Rattle.tpm_image_text.specs.Image.{device_image}
use Rattle.tpm_image_text.specs.Version.{version_of}
use Rattle.tpm_image_text.proofs.RecordLaws.{record_again, record_image}
use Rattle.tpm_journal_text.specs.Entry.{IsEntry, PlainEntry}
use Rattle.tpm_journal_text.specs.Head.{head_sum, head_text}
use Rattle.tpm_journal_text.specs.Journal.{IsTorn, entries_text, sum_after_all}
use Rattle.tpm_journal_text.specs.declared.head.HeadKind.TheVariants.{Image, State}
use Rattle.tpm_record.specs.Cycle.{after_cycle}
use Rattle.tpm_record.specs.IsRecord.{IsRecord}
use Rattle.tpm_record.specs.Record.{Record}
use Rattle.tpm_state_text.specs.Body.{IsWholeState, WholeState}
use Rattle.tpm_state_text.specs.State.{state_text}
use Rattle.tpm_state_text.proofs.StateLaws.{text_told}
use Rattle.tpm_snapshot.proofs.Layers.{layer_again}
use Rattle.tpm_journal.specs.Checkpoint.{checkpointed_journal, state_beside}
use Rattle.tpm_journal.specs.Living.{Lives}
use Rattle.tpm_journal.specs.Opening.{IsOpenedAgain, OpensJournal}
use Rattle.tpm_journal.specs.Starting.{BeginsWith, start_by, start_by_image, start_by_state}
use Rattle.tpm_journal.specs.State.{journal_begun, journal_resumed}
use Rattle.tpm_journal.specs.declared.journal.Journal.{Journal}
use Rattle.tpm_journal.specs.declared.opening.OpenFault.{OpenFault}
use Rattle.tpm_journal.specs.declared.opening.Opened.{Opened}
use Rattle.tpm_journal.proofs.Again.{opened_again}
use Rattle.tpm_journal.proofs.Ignoring.{lives_alike}

pub image_starts : (clock : ℕ) (r : Record) → IsRecord r
    → start_by Image clock (device_image r)
    ≡ Ok (record {
      journal = journal_begun clock (device_image r);
      device =
          after_cycle r;
    })
image_starts clock r is = ap (start_by_image clock (device_image r))
    (record_again (version_of r.fixed.profile) r is (record_image r is).0)

pub state_starts : (clock : ℕ) (state : WholeState) → IsWholeState state
    → start_by State clock (state_text state)
    ≡ Ok (record {
      journal = journal_resumed (head_sum clock (state_text state)) clock state.layer;
      device = state.device;
    })
state_starts clock state is = ap (start_by_state clock (state_text state)) (text_told state is)

-- ---- a checkpoint

pub checkpoint_starts : (j : Journal) (clock : ℕ) (r : Record) → IsWholeState (state_beside j r)
    → start_by State clock (state_text (state_beside j r))
    ≡ Ok (record { journal = checkpointed_journal j clock r; device = r })
checkpoint_starts j clock r is =
    state_starts clock (state_beside j r) is
    ∙ ap (λ (c : Completion).
    Ok (record {
      journal = record (checkpointed_journal j clock r) { layer = c };
      device =
          r;
    })) (layer_again j.layer)

pub checkpoint_opened : (j : Journal) (clock : ℕ) (r : Record) (entries : List PlainEntry)
    (rest : List ℕ) (layer : Completion) (final : Record)
    (text : List ℕ) → IsWholeState (state_beside j r)
    → BeginsWith text State clock (state_text (state_beside j r))
    (entries_text (checkpointed_journal j clock r).sum entries ++ rest)
    → AllByRecursion IsEntry entries
    → IsTorn (sum_after_all (checkpointed_journal j clock r).sum entries) rest
    → Lives j.layer r entries layer final
    → (result : Result Opened OpenFault) (new : Record) → OpensJournal text result new
    → IsOpenedAgain (head_text State clock (state_text (state_beside j r)))
    (checkpointed_journal j clock r) entries layer final result new
checkpoint_opened j clock r entries rest layer final text is begins are torn lives =
    opened_again State clock (state_text (state_beside j r))
    (record { journal = checkpointed_journal j clock r; device = r }) entries rest layer final
    text
    (checkpoint_starts j clock r is) begins are torn
    (lives_alike j.layer r entries layer final lives)

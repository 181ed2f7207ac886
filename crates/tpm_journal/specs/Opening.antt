-- The result of opening bytes as a journal.
use Rattle.std.specs.Prelude.{◌≡◌, ℕ, ◌+◌, false, List, length, Result, Ok, Err, Some, None}
use Rattle.tpm_completion.specs.declared.completion.Completion.{Completion}
use Rattle.tpm_journal_text.specs.Entry.{PlainEntry}
use Rattle.tpm_journal_text.specs.Journal.{entries_text}
use Rattle.tpm_record.specs.Record.{Record}
use Rattle.tpm_journal.specs.Replay.{Replays}
use Rattle.tpm_journal.specs.Starting.{Start, Starts, StartsNot, starting_head}
use Rattle.tpm_journal.specs.State.{journal_after_all}
use Rattle.tpm_journal.specs.declared.following.Followed.{Followed}
use Rattle.tpm_journal.specs.declared.journal.Journal.{Journal}
use Rattle.tpm_journal.specs.declared.opening.OpenFault.{OpenFault}
use Rattle.tpm_journal.specs.declared.opening.OpenFault.TheVariants as fault
use Rattle.tpm_journal.specs.declared.opening.Opened.{Opened}

-- The bytes begin with a head that starts a journal. The device and the layer in that head executed
-- the entries after it, with this result.
pub record Reads (text : List ℕ) (followed : Followed) (journal : Journal) (new : Record) : Type 0 where
  pub start : Start
  pub rest : List ℕ
  pub starts : Starts text start rest
  pub replays : Replays false start.journal start.device rest followed journal new

-- The bytes are a journal: its device and the layer above it executed exactly the entries after its
-- head. Nothing follows these entries, except perhaps an incomplete entry after a crash.
pub record IsJournal (text : List ℕ) (opened : Opened) (new : Record) : Type 0 where
  pub followed : Followed
  pub reads : Reads text followed opened.journal new
  pub whole : followed.fault ≡ None
  pub size : opened.taken ≡ length (starting_head reads.starts) + followed.taken

-- On success, the bytes are a journal. On error, this fault is the reason why they do not start a
-- journal, or their entries were executed up to this fault.
abbrev pub OpensJournal : List ℕ → Result Opened OpenFault → Record → Type 0
OpensJournal text (Ok opened) new = IsJournal text opened new
OpensJournal text (Err fault.NoJournal) new = StartsNot text fault.NoJournal
OpensJournal text (Err (fault.Image why)) new = StartsNot text (fault.Image why)
OpensJournal text (Err (fault.State why)) new = StartsNot text (fault.State why)
OpensJournal text (Err (fault.Follow why)) new =
    (followed : Followed) × (journal : Journal) × Reads text followed journal new
    × (followed.fault ≡ Some why)

-- Opening succeeded, and read the head and all of these entries. The resulting layer and record are
-- `layer` and `final`.
abbrev pub IsOpenedAgain : (head : List ℕ) → Journal → List PlainEntry → (layer : Completion)
    → (final : Record) → Result Opened OpenFault → Record → Type 0
IsOpenedAgain head start entries layer final (Ok opened) new =
    (new ≡ final) × (opened.taken ≡ length head + length (entries_text start.sum entries))
    × (opened.journal ≡ journal_after_all start entries layer)
IsOpenedAgain head start entries layer final (Err why) new = ⊥

-- Executing the entries of a journal again.
use Rattle.std.specs.Prelude.{◌≡◌, ◌≢◌, ℕ, ◌≤◌, Bool, List, [], ◌∷◌, ◌++◌, drop, length, map, take, Option, Some, None}
use Rattle.std.specs.List.{AllByRecursion}
use Rattle.tpm_completion.specs.Execution.{Seen}
use Rattle.tpm_completion.specs.Run.{run_of}
use Rattle.tpm_completion.specs.declared.completion.Completion.{Completion}
use Rattle.tpm_record.specs.Record.{Record}
use Rattle.tpm_machine.specs.Executions.{Execution}
use Rattle.tpm_journal_text.specs.Entry.{IsEntry, PlainEntry, entry_text, plain_entry}
use Rattle.tpm_journal_text.specs.Journal.{IsTorn, IsDamaged, entries_text}
use Rattle.tpm_journal_text.specs.Sum.{sum_of}
use Rattle.tpm_journal.specs.Command.{IsPerformed, event_of}
use Rattle.tpm_journal.specs.State.{journal_after, journal_after_all}
use Rattle.tpm_journal.specs.declared.journal.Journal.{Journal}
use Rattle.tpm_journal.specs.declared.following.Deed.{Deed}
use Rattle.tpm_journal.specs.declared.following.Deed.TheVariants as deed
use Rattle.tpm_journal.specs.declared.following.Followed.{Followed}
use Rattle.tpm_journal.specs.declared.following.FollowFault.{FollowFault}
use Rattle.tpm_journal.specs.declared.following.FollowFault.TheVariants.{Damaged, Otherwise}

-- an entry whose command was executed again, and the effect of the command
pub record Performance : Type 0 where
  pub entry : PlainEntry
  pub seen : Seen

abbrev pub entry_in : Performance → PlainEntry
entry_in one = one.entry

-- the checksum of the response to an entry's command
abbrev pub response_sum : Performance → ℕ
response_sum one = sum_of one.seen.step.response

-- the checksum that an entry records for its command's response
abbrev pub answer_said : Performance → ℕ
answer_said one = one.entry.answered

-- Executing these entries again, one after another, changes the journal from `before` to `after`,
-- and the record from `old` to `new`. Each entry is executed with the layer if the entry says so.
-- `can` says whether an allocation can fail.
abbrev pub LeadsBy : (can : Bool) → Journal → Record → List Performance → Journal → Record → Type 0
LeadsBy can before old [] after new = (after ≡ before) × (new ≡ old)
LeadsBy can before old (one ∷ performances) after new =
    IsPerformed can before.layer old one.entry one.seen
    × LeadsBy can (journal_after before one.entry one.seen.layer) one.seen.step.after performances
    after new

-- all executions by the device that result from these entries
abbrev pub run_of_all : (can : Bool) (before : Journal) (old : Record)
    (performances : List Performance) (after : Journal) (new : Record)
    → LeadsBy can before old performances after new → List Execution
run_of_all can before old [] after new leads = []
run_of_all can before old (one ∷ performances) after new leads =
    run_of can one.entry.completes before.layer old (event_of one.entry) one.seen leads.0
    ++ run_of_all can (journal_after before one.entry one.seen.layer) one.seen.step.after
    performances after new leads.1

-- The checksums of the responses are the checksums in the entries. If the device answered
-- differently, only the last checksum differs.
abbrev pub AnswersAre : Option FollowFault → (sums said : List ℕ) → Type 0
AnswersAre None sums said = sums ≡ said
AnswersAre (Some Damaged) sums said = sums ≡ said
AnswersAre (Some Otherwise) sums said =
    (front : List ℕ) × (sum : ℕ) × (other : ℕ) × (sums ≡ front ++ sum ∷ [])
    × (said ≡ front ++ other ∷ []) × (sum ≢ other)

-- What follows the executed entries: torn input if there was no fault, damaged input if the fault
-- is damage, and any bytes if the device answered differently.
abbrev pub EndsIn : Option FollowFault → (sum : ℕ) → (left : List ℕ) → Type 0
EndsIn None sum left = IsTorn sum left
EndsIn (Some Damaged) sum left = IsDamaged sum left
EndsIn (Some Otherwise) sum left = Unit {0}

-- A device, with its layer, executed exactly the entries at the beginning of the input, one after
-- another. This changed the journal from `before` to `after`, and the record from `old` to `new`.
-- The checksums of the responses satisfy `AnswersAre`.
pub record Repeats (can : Bool) (before : Journal) (old : Record) (text : List ℕ) (taken : ℕ)
    (fault : Option FollowFault) (after : Journal) (new : Record) : Type 0
  where
    pub performances : List Performance
    pub are : AllByRecursion IsEntry (map entry_in performances)
    pub within : taken ≤ length text
    pub front : take taken text ≡ entries_text before.sum (map entry_in performances)
    pub leads : LeadsBy can before old performances after new
    pub answers : AnswersAre fault (map response_sum performances) (map answer_said performances)

-- A device executed the entries in the input, with this result.
pub record Replays (can : Bool) (before : Journal) (old : Record) (text : List ℕ)
    (followed : Followed) (after : Journal) (new : Record) : Type 0
  where
    pub repeats : Repeats can before old text followed.taken followed.fault after new
    pub ends : EndsIn followed.fault after.sum (drop followed.taken text)

-- ---- executing a single entry again

-- The entry at the beginning of the input was executed again. `Holds` relates the checksum of its
-- response to the checksum in the entry.
pub record Performs (can : Bool) (before : Journal) (old : Record) (text : List ℕ) (size : ℕ)
    (one : Performance) (after : Journal) (Holds : ℕ → ℕ → Type 0) : Type 0
  where
    pub is : IsEntry one.entry
    pub within : size ≤ length text
    pub front : take size text ≡ entry_text before.sum one.entry
    pub performed : IsPerformed can before.layer old one.entry one.seen
    pub answer : Holds (response_sum one) (answer_said one)
    pub journal : after ≡ journal_after before one.entry one.seen.layer

-- The result of processing the beginning of the input. If an entry was executed, `seen` is its
-- effect.
abbrev pub Does : Bool → Journal → Record → List ℕ → Deed → (after : Journal) → Seen → Type 0
Does can before old text (deed.Executed entry size) after seen =
    Performs can before old text size (record { entry = plain_entry entry; seen = seen }) after
    (λ sum said. sum ≡ said)
Does can before old text (deed.Otherwise entry size) after seen =
    Performs can before old text size (record { entry = plain_entry entry; seen = seen }) after
    (λ sum said. sum ≢ said)
Does can before old text deed.Torn after seen =
    IsTorn before.sum text × (after ≡ before) × (seen.step.after ≡ old)
Does can before old text deed.Damaged after seen =
    IsDamaged before.sum text × (after ≡ before) × (seen.step.after ≡ old)

-- ---- input that is executed to its end

-- The input ended without a fault, and all of these entries were executed. The resulting layer and
-- record are `layer` and `final`.
pub record IsFollowedWhole (before : Journal) (entries : List PlainEntry) (layer : Completion)
    (final : Record) (followed : Followed) (after : Journal) (new : Record) : Type 0
  where
    pub whole : followed.fault ≡ None
    pub taken : followed.taken ≡ length (entries_text before.sum entries)
    pub leads : new ≡ final
    pub journal : after ≡ journal_after_all before entries layer

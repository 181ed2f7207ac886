-- The text of a log: a head, and the entries of the commands executed since the log began.
use Rattle.std.specs.Prelude.{◌≡◌, ℕ, Bool, false, List, map, Option, Some, None}
use Rattle.std.specs.Io.KnownBytes.{Appends}
use Rattle.std.specs.List.{AllByRecursion, FoldsTo}
use Rattle.tpm_bytes.specs.Tap.{device_of}
use Rattle.tpm_machine.specs.Executions.{Execution}
use Rattle.tpm_journal_text.specs.Entry.{IsEntry, PlainEntry, entry_text, sum_after}
use Rattle.tpm_journal_text.specs.Head.{head_sum, head_text}
use Rattle.tpm_journal_text.specs.declared.head.HeadKind.TheVariants.{Image}
use Rattle.tpm_journal_text.specs.Journal.{entries_text, sum_after_all}
use Rattle.tpmsim_image.specs.log.Executed.{entry_in}
use Rattle.tpmsim_image.specs.declared.log.Log.{Log}

-- the state of a log: its text, if that is known, and the checksum of the marks of its head and
-- entries
pub record Written : Type 0 where
  pub text : Option (List ℕ)
  pub sum : ℕ

-- the state of a log; `contents` returns what its writer contains
abbrev pub written_of : {W : Type 0} → (W → Option (List ℕ)) → Log W → Written
written_of contents log = record { text = contents (device_of log.writer); sum = log.sum }

-- A log was begun: the head with this clock and this image was appended to the writer's old
-- contents.
pub record Begins (clock : ℕ) (image : List ℕ) (before : Option (List ℕ)) (now : Written) : Type 0
  where
    pub text : Appends before now.text (head_text Image clock image)
    pub sum : now.sum ≡ head_sum clock image

-- An entry was appended to a log.
pub record AddsEntry (old : Written) (e : PlainEntry) (new : Written) : Type 0 where
  pub is : IsEntry e
  pub text : Appends old.text new.text (entry_text old.sum e)
  pub sum : new.sum ≡ sum_after old.sum e

-- The execution has an entry, which was appended to a log.
abbrev pub AddsSome : Written → Option PlainEntry → Written → Type 0
AddsSome old None new = ⊥
AddsSome old (Some e) new = AddsEntry old e new

abbrev pub Adds : Written → Execution → Written → Type 0
Adds old one new = AddsSome old (entry_in one) new

-- The entries of exactly these executions were appended to a log, in order.
pub record AddsAll (old : Written) (executions : List Execution) (new : Written) : Type 0 where
  pub entries : List PlainEntry
  pub are : map entry_in executions ≡ map Some entries
  pub entry : AllByRecursion IsEntry entries
  pub text : Appends old.text new.text (entries_text old.sum entries)
  pub sum : new.sum ≡ sum_after_all old.sum entries

-- A log that was notified of executions one after another contains exactly their entries, in order.
abbrev pub LogsTellAll : Type 0
LogsTellAll = (old : Written) (executions : List Execution) (new : Written)
    → FoldsTo Adds old executions new → AddsAll old executions new

-- ---- an optional log

-- The entry of an execution was appended to the log, if there is a log.
abbrev pub AddsWhereKept : {W : Type 0} → (W → Option (List ℕ)) → Option (Log W) → Execution
    → Option (Log W) → Type 0
AddsWhereKept contents None one new = new ≡ None
AddsWhereKept contents (Some old) one (Some new) =
    Adds (written_of contents old) one (written_of contents new)
AddsWhereKept contents (Some old) one None = ⊥

-- whether there is a log, and a write to it failed
abbrev pub log_failed : {W : Type 0} → Option (Log W) → Bool
log_failed None = false
log_failed (Some log) = log.failed

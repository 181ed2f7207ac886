-- Commands that a running device executes, and how their entries are executed again.
use Rattle.std.specs.Prelude.{◌≡◌, false, List, [], ◌∷◌}
use Rattle.tpm_completion.specs.Execution.{Seen}
use Rattle.tpm_completion.specs.declared.completion.Completion.{Completion}
use Rattle.tpm_record.specs.Record.{Record}
use Rattle.tpm_journal_text.specs.Entry.{IsEntry, PlainEntry}
use Rattle.tpm_journal_text.specs.Sum.{sum_of}
use Rattle.tpm_journal.specs.Command.{Command, Executed, IsPerformed, entry_of}

-- The device and its layer executed the commands of these entries one after another. This changed
-- the layer from `layer` to `after`, and the record from `old` to `new`.
abbrev pub Lives : Completion → Record → List PlainEntry → Completion → Record → Type 0
Lives layer old [] after new = (after ≡ layer) × (new ≡ old)
Lives layer old (e ∷ entries) after new =
    (c : Command) × (seen : Seen) × Executed false layer old c seen × IsEntry e
    × (e ≡ entry_of c seen) × Lives seen.layer seen.step.after entries after new

-- Executing the entries again, one after another, changes the layer from `layer` to `after`, and
-- the record from `old` to `new`. Each response has the checksum that its entry records.
abbrev pub Answers : Completion → Record → List PlainEntry → Completion → Record → Type 0
Answers layer old [] after new = (after ≡ layer) × (new ≡ old)
Answers layer old (e ∷ entries) after new =
    (seen : Seen) × IsPerformed false layer old e seen × (sum_of seen.step.response ≡ e.answered)
    × Answers seen.layer seen.step.after entries after new

-- Random bytes that a command does not draw have no effect. Executed again with only the bytes that
-- it drew, followed by zeros, the command has the same effect, with or without the layer.
abbrev pub IgnoresUndrawn : Type 0
IgnoresUndrawn = (layer : Completion) (old : Record) (c : Command) (seen : Seen)
    → Executed false layer old c seen → IsPerformed false layer old (entry_of c seen) seen

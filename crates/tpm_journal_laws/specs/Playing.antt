-- What the entries of a journal do when they are played as a script.
use Rattle.std.specs.Prelude.{◌≡◌, ℕ, ◌+◌, ◌≤◌, false, List, [], ◌∷◌, ◌++◌, None, length, take}
use Rattle.std.specs.List.{AllByRecursion}
use Rattle.tpm_journal_text.specs.Entry.{IsEntry, PlainEntry, shown}
use Rattle.tpm_journal_text.specs.Head.{head_sum, head_text}
use Rattle.tpm_journal_text.specs.Journal.{entries_text}
use Rattle.tpm_journal_text.specs.declared.head.HeadKind.{HeadKind}
use Rattle.tpm_machine.specs.Drawn.{drawn_by}
use Rattle.tpm_record.specs.Record.{Record}
use Rattle.tpm_step.specs.step.Events.{PlainEvent, Given}
use Rattle.tpm_step.specs.step.Step.{step}
use Rattle.tpmsim_script.specs.Line.{lines_of}
use Rattle.tpmsim_script.specs.Script.{at_first, play, printed_response, repeated}

-- the event that the lines of an entry execute; its random bytes repeat the bytes that the entry's
-- command drew
abbrev pub scripted_event : PlainEntry → PlainEvent
scripted_event e = Given e.buffer e.locality e.elapsed (repeated (shown e.drawn))

-- the output for entries executed one after another: each response, as a line of hex
abbrev pub printed_answers : Record → List PlainEntry → List ℕ
printed_answers r [] = []
printed_answers r (e ∷ entries) =
    printed_response (step r (scripted_event e)).response
    ++ printed_answers (step r (scripted_event e)).after entries

-- If the content of a journal's head has at most 32,767 bytes, the journal can be played as a
-- script to its end. The script prints the device's responses to the entries.
abbrev pub JournalPlays : Type 0
JournalPlays = (kind : HeadKind) (clock : ℕ) (content : List ℕ) (entries : List PlainEntry)
    (r : Record) (number : ℕ) → length content ≤ 32767 → AllByRecursion IsEntry entries
    → play (at_first false r) number
    (lines_of (head_text kind clock content ++ entries_text (head_sum clock content) entries))
    ≡ record { text = printed_answers r entries; bad = None }

-- If an entry contains the bytes that its command drew from 256 random bytes, its lines execute the
-- command as it was originally executed.
abbrev pub PlaysAsExecuted : Type 0
PlaysAsExecuted = (r : Record) (e : PlainEntry) (random : List ℕ) → length random ≡ 256
    → e.drawn ≡ take (drawn_by r (Given e.buffer e.locality e.elapsed random) 0) random
    → step r (scripted_event e) ≡ step r (Given e.buffer e.locality e.elapsed random)

-- How a journal is converted to a script, or to the answers of its device, by executing each entry
-- again.
use Rattle.std.specs.Prelude.{◌≡◌, ℕ, ◌+◌, false, true, Bool, List, [], ◌∷◌, ◌++◌, codes, drop, flat_map, length}
use Rattle.std.specs.Prelude.{Option, Some, None, Result, Ok, Err}
use Rattle.std.specs.Io.KnownBytes.{Appends, Keeps}
use Rattle.tpm_bytes.specs.Tap.{Marks}
use Rattle.tpm_journal.specs.Command.{event_of}
use Rattle.tpm_journal.specs.Replay.{Performance, Repeats, Replays}
use Rattle.tpm_journal.specs.Starting.{Start, Starts, StartsNot, starting_head}
use Rattle.tpm_journal.specs.declared.following.Followed.{Followed}
use Rattle.tpm_journal.specs.declared.following.FollowFault.{FollowFault}
use Rattle.tpm_journal.specs.declared.journal.Journal.{Journal}
use Rattle.hex.specs.Hex.{encode_lower}
use Rattle.tpm_journal_text.specs.Entry.{PlainEntry, executing_lines, mark_line_size, setting_lines}
use Rattle.tpm_record.specs.Record.{Record}
use Rattle.tpm_step.specs.step.Events.{PlainEvent}
use Rattle.tpm_step.specs.declared.event.Row.{Row}
use Rattle.tpm_text.specs.Trace.{IsAnswered, IsRow, trace_text}
use Rattle.tpm_journal.specs.declared.retelling.RetellFault.{RetellFault}
use Rattle.tpm_journal.specs.declared.retelling.RetellFault.TheVariants.{Open, Follow, Write}
use Rattle.tpm_journal.specs.declared.retelling.Telling.{Telling}
use Rattle.tpm_journal.specs.declared.retelling.Telling.TheVariants.{Script, Answers}

-- the words that describe how an event was answered: `completed` if the completing layer was on,
-- otherwise the trace
abbrev pub words_of : (completes : Bool) → PlainEvent → Row → (response : List ℕ) → List ℕ
words_of true event row response = codes "completed"
words_of false event row response = trace_text event row response

-- The answer to this event can be described in words. A trace requires a known command and check,
-- and a response that contains a header.
abbrev pub CanBeTold : (completes : Bool) → PlainEvent → Row → (response : List ℕ) → Type 0
CanBeTold true event row response = Unit {0}
CanBeTold false event row response = IsRow row × IsAnswered event response

-- the comment text for a journal entry that was executed again
abbrev pub comment_of : Performance → List ℕ
comment_of one =
    words_of one.entry.completes (event_of one.entry) one.seen.step.row one.seen.step.response

-- the script lines for an entry: a comment with this text, and the lines that execute the entry's
-- command
abbrev pub lines_with : (words : List ℕ) → PlainEntry → List ℕ
lines_with words e = codes "# " ++ words ++ 10 ∷ [] ++ (setting_lines e ++ executing_lines e)

-- the lines for an answer: this text, and the response in hex
abbrev pub answer_lines : (words response : List ℕ) → List ℕ
answer_lines words response = words ++ 10 ∷ [] ++ encode_lower response ++ 10 ∷ []

-- the output for an entry that was executed again: the script lines that execute its command, or
-- its answer
abbrev pub retold : Telling → Performance → List ℕ
retold Script one = lines_with (comment_of one) one.entry
retold Answers one = answer_lines (comment_of one) one.seen.step.response

-- the output for an entry, given its comment, its response and its own lines in the journal
abbrev pub retold_by : Telling → (words response own : List ℕ) → List ℕ
retold_by Script words response own = codes "# " ++ words ++ 10 ∷ [] ++ drop mark_line_size own
retold_by Answers words response own = answer_lines words response

-- the output for a head: the head itself in a script, nothing in a list of answers
abbrev pub retold_head : Telling → (head : List ℕ) → List ℕ
retold_head Script head = head
retold_head Answers head = []

-- Exactly the entries at the beginning of the input were executed again, one after another. For
-- each entry, the output was written: its script lines or its answer.
pub record Retells (form : Telling) (can : Bool) (before : Journal) (old : Record) (text : List ℕ)
    (held : Option (List ℕ)) (holds : Option (List ℕ)) (taken : ℕ) (fault : Option FollowFault)
    (after : Journal) (new : Record) : Type 0
  where
    pub repeats : Repeats can before old text taken fault after new
    pub told : Appends held holds (flat_map (retold form) repeats.performances)

-- The entries in the input were executed again, with this result. For each entry, the output was
-- written: its script lines or its answer.
pub record RetellsEntries (form : Telling) (can : Bool) (before : Journal) (old : Record) (text : List ℕ)
    (held : Option (List ℕ)) (holds : Option (List ℕ)) (followed : Followed) (after : Journal)
    (new : Record) : Type 0
  where
    pub replays : Replays can before old text followed after new
    pub told : Appends held holds (flat_map (retold form) replays.repeats.performances)

-- The input begins with a head that starts a journal. The output for the head and for each executed
-- entry was written. `fault` is the reason if execution stopped early.
pub record RetellsText (form : Telling) (text : List ℕ) (held : Option (List ℕ)) (holds : Option (List ℕ))
    (fault : Option FollowFault) : Type 0
  where
    pub start : Start
    pub rest : List ℕ
    pub starts : Starts text start rest
    pub followed : Followed
    pub ends_so : followed.fault ≡ fault
    pub after : Journal
    pub new : Record
    pub replays : Replays false start.journal start.device rest followed after new
    pub told : Appends held holds
        (retold_head form (starting_head starts)
        ++ flat_map (retold form) replays.repeats.performances)

-- the size of the head and of the entries that were executed after it
abbrev pub retold_size : {form : Telling} {text : List ℕ} {held holds : Option (List ℕ)}
    {fault : Option FollowFault} → RetellsText form text held holds fault → ℕ
retold_size told = length (starting_head told.starts) + told.followed.taken

-- On success, the journal was converted to its end. On error, it was converted up to a fault; or
-- the input starts no journal, and nothing was written; or the writer failed.
abbrev pub RetellsJournal : Telling → List ℕ → (held : Option (List ℕ)) → (holds : Option (List ℕ))
    → Marks → Result (Unit {0}) RetellFault → Type 0
RetellsJournal form text held holds marks (Ok done) = RetellsText form text held holds None
RetellsJournal form text held holds marks (Err (Open why)) =
    StartsNot text why × Keeps held holds
RetellsJournal form text held holds marks (Err (Follow why taken)) =
    (told : RetellsText form text held holds (Some why)) × (taken ≡ retold_size told)
RetellsJournal form text held holds marks (Err Write) = marks.failed ≡ true

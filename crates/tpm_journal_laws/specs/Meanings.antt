-- What the lines of a journal mean as lines of a script.
use Rattle.std.specs.Prelude.{◌≡◌, ℕ, List, [], ◌∷◌, ◌++◌, map, Option, Some}
use Rattle.std.specs.List.{AllByRecursion}
use Rattle.hex.specs.Hex.{encode_lower}
use Rattle.tpm_journal_text.specs.Entry.{IsEntry, PlainEntry, entry_text, shown}
use Rattle.tpm_journal_text.specs.Head.{head_sum, head_text}
use Rattle.tpm_journal_text.specs.Journal.{entries_text}
use Rattle.tpm_journal_text.specs.declared.head.HeadKind.{HeadKind}
use Rattle.tpmsim_script.specs.Line.{Meaning, Executes, SetsLocality, Waits, SetsEntropy}
use Rattle.tpmsim_script.specs.Line.{DoesNothing}
use Rattle.tpmsim_script.specs.Line.{line_meaning, lines_of}

-- the meanings of the lines of a text, one after another; None for a line without a meaning
abbrev pub meanings_of : (text : List ℕ) → List (Option Meaning)
meanings_of text = map line_meaning (lines_of text)

-- the meanings of the lines of an entry, followed by the meanings of the later lines
abbrev pub entry_meanings : PlainEntry → (rest : List (Option Meaning)) → List (Option Meaning)
entry_meanings e rest =
    Some DoesNothing ∷ Some (Waits e.elapsed) ∷ Some (SetsLocality e.locality)
    ∷ Some (SetsEntropy (encode_lower (shown e.drawn)))
    ∷ Some (Executes (encode_lower e.buffer)) ∷ rest

-- the meanings of the lines of several entries, followed by the meanings of the later lines
abbrev pub entries_meanings : List PlainEntry → (rest : List (Option Meaning))
    → List (Option Meaning)
entries_meanings [] rest = rest
entries_meanings (e ∷ entries) rest = entry_meanings e (entries_meanings entries rest)

-- The lines of an entry have the meanings in `entry_meanings`, whatever follows.
abbrev pub EntryMeansIt : Type 0
EntryMeansIt = (sum : ℕ) (e : PlainEntry) (rest : List ℕ) → IsEntry e
    → meanings_of (entry_text sum e ++ rest) ≡ entry_meanings e (meanings_of rest)

-- The two lines of a head have no effect in a script, whatever follows.
abbrev pub HeadMeansNothing : Type 0
HeadMeansNothing = (kind : HeadKind) (clock : ℕ) (content rest : List ℕ)
    → meanings_of (head_text kind clock content ++ rest)
    ≡ Some DoesNothing ∷ Some DoesNothing ∷ meanings_of rest

-- If a journal consists of a head and entries, its lines have the meanings of the entries, one
-- after another.
abbrev pub JournalMeansIt : Type 0
JournalMeansIt = (kind : HeadKind) (clock : ℕ) (content : List ℕ) (entries : List PlainEntry)
    → AllByRecursion IsEntry entries
    → meanings_of (head_text kind clock content ++ entries_text (head_sum clock content) entries)
    ≡ Some DoesNothing ∷ Some DoesNothing ∷ entries_meanings entries []

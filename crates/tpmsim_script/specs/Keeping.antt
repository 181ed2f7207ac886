-- How a run saves its device: the saver is notified after each command and each power cycle, and
-- only the output of lines that were played is written.
use Rattle.std.specs.Prelude.{◌≡◌, ℕ, ◌+◌, Bool, true, false, List, [], ◌∷◌, ◌++◌, length}
use Rattle.std.specs.Prelude.{Option, Some, None, IfSome, Result, Ok, Err}
use Rattle.std.specs.Io.KnownBytes.{Appends, append_known}
use Rattle.tpm_bytes.specs.Tap.{Marks}
use Rattle.tpm_record.specs.Record.{Record}
use Rattle.tpmsim_script.specs.Answers.{CutOff}
use Rattle.tpmsim_script.specs.Line.{Meaning, Executes, ExecutesWords, CyclesPower}
use Rattle.tpmsim_script.specs.Line.{line_meaning, lines_of}
use Rattle.tpmsim_script.specs.Lines.{IsUnbroken}
use Rattle.tpmsim_script.specs.Script.{Effect, Playing, perform_line}
use Rattle.tpmsim_script.specs.declared.fault.RunFault.{RunFault}
use Rattle.tpmsim_script.specs.declared.fault.RunFault.TheVariants as fault

-- a script that is being played, and the saver of its device
pub record Kept (S : Type 0) : Type 0 where
  pub playing : Playing
  pub saver : S

abbrev pub kept_playing : {S : Type 0} → Playing → S → Kept S
kept_playing playing saver = record { playing = playing; saver = saver }

-- How the saver was notified of the device after a line. After a command, the saver was notified
-- that the device may have changed. After a power cycle, it was notified of the device with its
-- clock. After any other line, the saver is unchanged.
abbrev pub Tells : {S : Type 0} → (saves saves_change : S → Record → S → Type 0)
    → Option Meaning → Record → S → S → Type 0
Tells saves saves_change (Some (Executes digits)) device old new = saves_change old device new
Tells saves saves_change (Some (ExecutesWords words)) device old new = saves_change old device new
Tells saves saves_change (Some CyclesPower) device old new = saves old device new
Tells saves saves_change other device old new = new ≡ old

-- A line was played: the line is not bad and prints this text, and the saver was notified as
-- `Tells` defines.
pub record PlaysLine {S : Type 0} (saves saves_change : S → Record → S → Type 0)
    (old : Kept S) (line text : List ℕ) (new : Kept S) : Type 0 where
  pub performed : perform_line old.playing line ≡ Some (record { text = text; next = new.playing })
  pub told : Tells saves saves_change (line_meaning line) new.playing.device old.saver new.saver

-- Lines were played in order, and together they print this text.
abbrev pub PlaysLines : {S : Type 0} → (saves saves_change : S → Record → S → Type 0)
    → Kept S → List (List ℕ) → List ℕ → Kept S → Type 0
PlaysLines saves saves_change old [] text new = (text ≡ []) × (new ≡ old)
PlaysLines {S = S} saves saves_change old (line ∷ lines) text new =
    (first : List ℕ) × (mid : Kept S) × (more : List ℕ) × (text ≡ first ++ more)
    × PlaysLine saves saves_change old line first mid
    × PlaysLines saves saves_change mid lines more new

-- `count` lines were played. If a line is bad, these are all the lines before it. If the script has
-- too many lines, `count` is the maximum number of lines.
abbrev pub Counts : Result (Unit {0}) RunFault → ℕ → Type 0
Counts (Err (fault.Line number)) count = number ≡ count + 1
Counts (Err fault.TooManyLines) count = count ≡ 1048576
Counts other count = Unit {0}

-- The lines `rest` were not played. If the run succeeded, `rest` is empty. If the run stopped at a
-- bad line, `rest` begins with the bad line. If the reader failed, `rest` begins with the line that
-- the reader had begun to return; `left` is the text that the reader has not returned. If the
-- script has too many lines, `rest` has at least one line.
abbrev pub Leaves : Result (Unit {0}) RunFault → (left : Option (List ℕ)) → Playing
    → List (List ℕ) → Type 0
Leaves (Ok done) left p rest = rest ≡ []
Leaves (Err (fault.Line number)) left p rest =
    (line : List ℕ) × (others : List (List ℕ)) × (rest ≡ line ∷ others)
    × (perform_line p line ≡ None)
Leaves (Err fault.Read) left p rest =
    (start : List ℕ) × IsUnbroken start × IfSome left (λ more. rest ≡ lines_of (start ++ more))
Leaves (Err fault.TooManyLines) left p rest =
    (line : List ℕ) × (others : List (List ℕ)) × (rest ≡ line ∷ others)
Leaves (Err other) left p rest = Unit {0}

-- This text was written; if the writer failed, only a prefix of the text was written.
abbrev pub Writes : Result (Unit {0}) RunFault
    → Option (List ℕ) → Option (List ℕ) → List ℕ → Type 0
Writes (Err fault.Write) old new text = CutOff (append_known old text) new
Writes other old new text = Appends old new text

-- Lines of a text were played, beginning in the state `start`, and the state after them satisfies
-- `Last`. Their output was written after the old contents of the writer (`old`).
pub record Played {S : Type 0} (saves saves_change : S → Record → S → Type 0)
    (text left old new : Option (List ℕ)) (start : Kept S)
    (result : Result (Unit {0}) RunFault) (Last : Kept S → Type 0) : Type 0 where
  pub lines : List (List ℕ)
  pub print : List ℕ
  pub end : Kept S
  pub played : PlaysLines saves saves_change start lines print end
  pub count : Counts result (length lines)
  pub others : IfSome text (λ text. (rest : List (List ℕ)) × (lines_of text ≡ lines ++ rest)
      × Leaves result left end.playing rest)
  pub written : Writes result old new print
  pub last : Last end

-- A run saved its device: it wrote the output of the played lines, and notified the saver as
-- `Tells` defines. The state after these lines satisfies `Last`. If a save failed at a line, that
-- line does not count as played, none of its output was written, and `Last` need not hold. If the
-- writer also failed, or if memory ran out, nothing is claimed.
abbrev pub KeepsDevice : {S : Type 0} → (saves saves_change : S → Record → S → Type 0)
    → (text left old new : Option (List ℕ)) → (writer : Marks) → Kept S
    → Result (Unit {0}) RunFault → (Last : Kept S → Type 0) → Type 0
KeepsDevice saves saves_change text left old new writer start (Err fault.NoMemory) Last = Unit {0}
KeepsDevice saves saves_change text left old new writer start (Err fault.Save) Last =
    writer.failed ≡ false → Played saves saves_change text left old new start (Err fault.Save)
    (λ end. Unit {0})
KeepsDevice saves saves_change text left old new writer start result Last =
    Played saves saves_change text left old new start result Last

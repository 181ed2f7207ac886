-- What a call returns about a line of a script, or about a command in words.
use Rattle.std.specs.Prelude.{◌≡◌, ℕ, List, take, Some, Result, Ok, Err}
use Rattle.tpm_image_text.specs.Saving.{PutsFront}
use Rattle.tpm_text.specs.Line.{assembled_bytes}
use Rattle.tpm_text.specs.declared.fault.AsmFault.{AsmFault}
use Rattle.tpm_text.specs.declared.fault.AsmFault.TheVariants as fault
use Rattle.tpmsim_script.specs.Checking.{check, line_check}
use Rattle.tpmsim_script.specs.Line.{Meaning, Executes, ExecutesWords, SetsLocality, Waits}
use Rattle.tpmsim_script.specs.Line.{SetsEntropy, CyclesPower, DoesNothing, bytes_of, line_meaning}
use Rattle.tpmsim_script.specs.Report.{wanted_text}
use Rattle.tpmsim_script.specs.declared.bad_line.BadLine.{BadLine}
use Rattle.tpmsim_web.specs.declared.read_line.ReadLine.{ReadLine}

-- the number that stands for the error in a line, that is, in a command in words
abbrev pub fault_kind : AsmFault → ℕ
fault_kind fault.BadName = 1
fault_kind (fault.BadField column) = 2
fault_kind fault.Missing = 3
fault_kind (fault.Range column) = 4
fault_kind fault.TooLong = 5
fault_kind fault.NoMemory = 6

-- the column of the wrong token; 0 if no token is wrong
abbrev pub fault_column : AsmFault → ℕ
fault_column fault.BadName = 0
fault_column (fault.BadField column) = column
fault_column fault.Missing = 0
fault_column (fault.Range column) = column
fault_column fault.TooLong = 0
fault_column fault.NoMemory = 0

-- The call returned the meaning of a line, with the bytes of its command or its entropy. For a
-- command, it also returned the milliseconds since the previous command (`waited`).
abbrev pub Says : Meaning → (waited : ℕ) → ReadLine → (bytes : List ℕ) → Type 0
Says (Executes digits) waited read bytes =
    (read.kind ≡ 1) × (read.number ≡ waited) × (bytes_of digits ≡ Some bytes)
Says (ExecutesWords words) waited read bytes =
    (read.kind ≡ 2) × (read.number ≡ waited) × (assembled_bytes words ≡ Ok bytes)
Says (SetsLocality number) waited read bytes = (read.kind ≡ 3) × (read.number ≡ number)
Says (Waits milliseconds) waited read bytes = (read.kind ≡ 4) × (read.number ≡ milliseconds)
Says (SetsEntropy digits) waited read bytes =
    (read.kind ≡ 5) × (bytes_of digits ≡ Some bytes)
Says CyclesPower waited read bytes = read.kind ≡ 6
Says DoesNothing waited read bytes = read.kind ≡ 0

-- If the meaning of a line passes the checks, the line is good, and `next` is the number of
-- milliseconds waited after it. Otherwise the line is bad, and `next` is unchanged.
abbrev pub ReadsMeaning : Meaning → (waited : ℕ) → Result ReadLine BadLine → (written : List ℕ)
    → (next : ℕ) → Type 0
ReadsMeaning meaning waited (Ok read) written next =
    (read.fault ≡ 0) × (check waited meaning ≡ Ok next)
    × Says meaning waited read (take read.size written)
ReadsMeaning meaning waited (Err bad) written next =
    (check waited meaning ≡ Err bad) × (next ≡ waited)

-- A line is good, and the call returned its meaning.
abbrev pub IsGood : List ℕ → (waited : ℕ) → ReadLine → (written : List ℕ) → (next : ℕ) → Type 0
IsGood line waited read written next =
    (meaning : Meaning) × (line_meaning line ≡ Some meaning) × (line_check waited line ≡ Ok next)
    × Says meaning waited read (take read.size written)

-- A line was parsed. Either it is good, or it is bad for this reason, and `next` is unchanged.
abbrev pub ReadsLine : List ℕ → (waited : ℕ) → Result ReadLine BadLine → (written : List ℕ)
    → (next : ℕ) → Type 0
ReadsLine line waited (Ok read) written next =
    (read.fault ≡ 0) × IsGood line waited read written next
ReadsLine line waited (Err bad) written next =
    (line_check waited line ≡ Err bad) × (next ≡ waited)

-- The call reported an error in a line, and what was expected at the error.
pub record TellsFault (found : AsmFault) (word : List ℕ) (read : ReadLine) (old new : List ℕ) : Type 0
  where
    pub kind : read.kind ≡ 0
    pub fault : read.fault ≡ fault_kind found
    pub column : read.column ≡ fault_column found
    pub wanted : PutsFront word old read.wanted new

-- The call reported why a line is bad.
abbrev pub TellsBad : List ℕ → BadLine → ReadLine → (old new : List ℕ) → Type 0
TellsBad line bad read old new = TellsFault bad.fault (wanted_text bad.wanted line bad.fault) read old new

-- Finds the faults in the lines of a script for a device of the symmetric profile, without running
-- them.
use Rattle.std.specs.Prelude.{◌≡◌, ℕ, ◌+◌, ◌^◌, ◌&&◌, nat_le, nat_lt, not, if◌then◌else◌}
use Rattle.std.specs.Prelude.{List, [], ◌∷◌, ◌++◌, length, Option, Some, None, Result, Ok, Err, ok_or}
use Rattle.tpm_bytes.specs.Reading.{◌>>=◌, refused_if}
use Rattle.tpm_text.specs.Line.{assembled_bytes}
use Rattle.tpm_text.specs.declared.fault.AsmFault.{AsmFault}
use Rattle.tpmsim_script.specs.BadLine.{long_line, misplaced, too_large}
use Rattle.tpmsim_script.specs.Line.{Meaning, Executes, ExecutesWords, SetsLocality, Waits}
use Rattle.tpmsim_script.specs.Line.{SetsEntropy, CyclesPower, DoesNothing, bytes_of, line_reading}
use Rattle.tpmsim_script.specs.declared.bad_line.BadLine.{BadLine}
use Rattle.tpmsim_script.specs.declared.bad_line.Wanted.TheVariants as wanted

-- checks a line with a command in words. The result is the number of milliseconds waited since this
-- command, which is 0; or the reason why the line is bad
abbrev pub assembly_check : Result (List ℕ) AsmFault → Result ℕ BadLine
assembly_check (Ok buffer) = Ok 0
assembly_check (Err fault) = Err (record { fault = fault; wanted = wanted.Command })

-- checks a line that waits. The result is the number of milliseconds waited since the last command,
-- including this wait. The line is bad if this number is not below 2^32
abbrev pub wait_check : (waited milliseconds : ℕ) → Result ℕ BadLine
wait_check waited milliseconds =
    if nat_lt (waited + milliseconds) (2 ^ 32) then Ok (waited + milliseconds)
    else Err (too_large wanted.Milliseconds)

-- checks a line that sets the random bytes: 1 to 256 bytes are allowed. The number of milliseconds
-- waited is unchanged
abbrev pub entropy_check : (waited : ℕ) → List ℕ → Result ℕ BadLine
entropy_check waited entropy =
    if nat_lt 0 (length entropy) && nat_le (length entropy) 256 then Ok waited
    else Err (misplaced wanted.Entropy)

-- checks a line with this meaning. `waited` is the number of milliseconds waited since the last
-- command, before this line. The result is this number after the line, or the reason why the line
-- is bad
abbrev pub check : (waited : ℕ) → Meaning → Result ℕ BadLine
check waited (Executes digits) = do
  buffer ← ok_or (bytes_of digits) (misplaced wanted.Hex)
  Ok 0
check waited (ExecutesWords words) = assembly_check (assembled_bytes words)
check waited (SetsLocality number) = Ok waited
check waited (Waits milliseconds) = wait_check waited milliseconds
check waited (SetsEntropy digits) = do
  entropy ← ok_or (bytes_of digits) (misplaced wanted.Entropy)
  entropy_check waited entropy
check waited CyclesPower = Ok waited
check waited DoesNothing = Ok waited

-- checks a line. `waited` is the number of milliseconds waited since the last command, before this
-- line. The result is this number after the line, or the reason why the line is bad. A line of more
-- than 65,536 bytes is bad
unfoldable pub line_check : (waited : ℕ) → List ℕ → Result ℕ BadLine
line_check waited line = do
  short ← refused_if (not (nat_le (length line) 65536)) long_line
  said ← line_reading line
  check waited said

-- A line was checked. If it is good, `new` is the number of milliseconds waited since the last
-- command, after the line. If it is bad, this number is unchanged.
abbrev pub Checks : Result ℕ BadLine → (old : ℕ) → Result (Unit {0}) BadLine → (new : ℕ) → Type 0
Checks defined old (Ok done) new = defined ≡ Ok new
Checks defined old (Err bad) new = (defined ≡ Err bad) × (new ≡ old)

-- a bad line: its number, its text, and its fault
pub record Fault : Type 0 where
  pub number : ℕ
  pub line : List ℕ
  pub bad : BadLine

-- the fault of a checked line, if it is bad
abbrev pub fault_at : Result ℕ BadLine → (number : ℕ) → (line : List ℕ) → List Fault
fault_at (Ok next) number line = []
fault_at (Err bad) number line = record { number = number; line = line; bad = bad } ∷ []

-- the number of milliseconds waited after a checked line; a bad line does not change this number
abbrev pub waited_behind : Result ℕ BadLine → (waited : ℕ) → ℕ
waited_behind (Ok next) waited = next
waited_behind (Err bad) waited = waited

-- the faults of lines, in order; `number` is the number of the first line
abbrev pub faults_of : (waited number : ℕ) → List (List ℕ) → List Fault
faults_of waited number [] = []
faults_of waited number (line ∷ lines) = fault_at (line_check waited line) number line
    ++ faults_of (waited_behind (line_check waited line) waited) (number + 1) lines

-- the number of the first bad line, if any
abbrev pub first_number : List Fault → Option ℕ
first_number [] = None
first_number (fault ∷ faults) = Some fault.number

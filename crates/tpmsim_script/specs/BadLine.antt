-- The reasons why a line is not allowed in a script. Columns are counted in the text after the
-- line's first word and the space.
use Rattle.std.specs.Prelude.{List, ℕ, is_some, if◌then◌else◌}
use Rattle.tpm_number.specs.Number.{numeral}
use Rattle.tpm_text.specs.declared.fault.AsmFault.{AsmFault}
use Rattle.tpm_text.specs.declared.fault.AsmFault.TheVariants as fault
use Rattle.tpmsim_script.specs.declared.bad_line.BadLine.{BadLine}
use Rattle.tpmsim_script.specs.declared.bad_line.Wanted.{Wanted}
use Rattle.tpmsim_script.specs.declared.bad_line.Wanted.TheVariants as wanted

-- the fault of a line whose first word is unknown
abbrev pub unknown_word : BadLine
unknown_word = record { fault = fault.BadName; wanted = wanted.Word }

-- the fault of a line that ends after its first word, although an argument is expected there
abbrev pub missing_argument : Wanted → BadLine
missing_argument wanted = record { fault = fault.Missing; wanted = wanted }

-- the fault of a wrong argument; `wanted` says what is expected instead
abbrev pub misplaced : Wanted → BadLine
misplaced wanted = record { fault = fault.BadField 1; wanted = wanted }

-- the fault of an argument whose number is too large
abbrev pub too_large : Wanted → BadLine
too_large wanted = record { fault = fault.Range 1; wanted = wanted }

-- the fault of an argument that is not the expected number: it is too large, or not a number
abbrev pub number_fault : List ℕ → Wanted → BadLine
number_fault argument wanted =
    if is_some (numeral 10 argument) then too_large wanted else misplaced wanted

-- the fault of a line of more than 65,536 bytes
abbrev pub long_line : BadLine
long_line = record { fault = fault.TooLong; wanted = wanted.ShortLine }

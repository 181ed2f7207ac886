-- The report of the bad lines of a script.
use Rattle.std.specs.Prelude.{ℕ, nat_lt, Bool, true, false, List, [], ◌∷◌, ◌++◌, length, take}
use Rattle.std.specs.Prelude.{drop, codes, Option, Some, None, Result, Ok, Err, if◌then◌else◌}
use Rattle.std.specs.Fmt.{decimal}
use Rattle.std.specs.List.{flat_map}
use Rattle.tpm_help.specs.Wanted.{word_at}
use Rattle.tpm_text.specs.declared.fault.AsmFault.{AsmFault}
use Rattle.tpm_text.specs.declared.fault.AsmFault.TheVariants as fault
use Rattle.tpmsim_script.specs.Checking.{Fault, faults_of, first_number}
use Rattle.tpmsim_script.specs.Foreign.{is_foreign}
use Rattle.tpmsim_script.specs.Hint.{hint_text}
use Rattle.tpmsim_script.specs.Line.{lines_of}
use Rattle.tpmsim_script.specs.declared.bad_line.Wanted.{Wanted}
use Rattle.tpmsim_script.specs.declared.bad_line.Wanted.TheVariants as wanted
use Rattle.tpmsim_script.specs.declared.fault.RunFault.{RunFault}
use Rattle.tpmsim_script.specs.declared.fault.RunFault.TheVariants as script

-- the name of a line's fault, with the column of the faulty token
abbrev pub fault_name : AsmFault → List ℕ
fault_name fault.BadName = codes "BadName"
fault_name (fault.BadField column) = codes "BadField " ++ decimal column
fault_name fault.Missing = codes "Missing"
fault_name (fault.Range column) = codes "Range " ++ decimal column
fault_name fault.TooLong = codes "TooLong"
fault_name fault.NoMemory = codes "NoMemory"

-- the words that say what is expected at the position of a bad line's fault. In a line with `do`,
-- the command begins after `do` and a space
abbrev pub wanted_text : Wanted → (line : List ℕ) → AsmFault → List ℕ
wanted_text wanted.Word line fault = codes "do, cmd, loc, wait, entropy or power"
wanted_text wanted.Command line fault = word_at (drop 3 line) fault
wanted_text wanted.Hex line fault = codes "hex"
wanted_text wanted.Locality line fault = codes "0 to 4"
wanted_text wanted.Milliseconds line fault = codes "u32"
wanted_text wanted.Entropy line fault = codes "1 to 256 bytes of hex"
wanted_text wanted.End line fault = codes "end of line"
wanted_text wanted.ShortLine line fault = codes "at most 65536 bytes"

-- the report of a bad line: its number, its fault, and what is expected instead
abbrev pub fault_text : (number : ℕ) → AsmFault → (wanted : List ℕ) → List ℕ
fault_text number fault wanted =
    codes "line " ++ decimal number ++ codes ": " ++ fault_name fault ++ codes ": " ++ wanted

-- the line of text that reports a bad line
abbrev pub report_line : Fault → List ℕ
report_line f = fault_text f.number f.bad.fault (wanted_text f.bad.wanted f.line f.bad.fault)
    ++ 10 ∷ []

-- the faults in the lines of a script, up to the limit of 1,048,576 lines. A script may not have
-- more lines, and any further lines are not checked
abbrev pub script_faults : List ℕ → List Fault
script_faults text = faults_of 0 1 (take 1048576 (lines_of text))

-- how a script ends, given the number of its first bad line, if any, and whether it has more lines
-- than the limit
abbrev pub end_of : (first : Option ℕ) → (more : Bool) → Result (Unit {0}) RunFault
end_of (Some number) more = Err (script.Line number)
end_of None true = Err script.TooManyLines
end_of None false = Ok tt

-- the line of text that reports a bad line, followed by the hint, if there is one
abbrev pub hinted_line : Fault → List ℕ
hinted_line f = report_line f ++ hint_text f.line f.bad

-- the reports of the bad lines of a script, in order
abbrev pub faults_text : List ℕ → List ℕ
faults_text text = flat_map hinted_line (script_faults text)

-- the report of a text that is not a script
unfoldable pub foreign_text : List ℕ
foreign_text = codes "not a script: no line begins with do, cmd, loc, wait, entropy or power; tpmsim-explain FILE explains traces, dumps and arrays"
    ++ 10 ∷ []

-- the report of a script
abbrev pub report_text : List ℕ → List ℕ
report_text text = if is_foreign text then foreign_text else faults_text text

abbrev pub report_end : List ℕ → Result (Unit {0}) RunFault
report_end text =
    end_of (first_number (script_faults text)) (nat_lt 1048576 (length (lines_of text)))

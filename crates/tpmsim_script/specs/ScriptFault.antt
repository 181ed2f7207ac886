-- How a script on a new device ends.
use Rattle.std.specs.Prelude.{◌≡◌, ◌⊎◌, ℕ, true, Option, Some, None, Result, Ok, Err}
use Rattle.tpm_bytes.specs.Tap.{Marks}
use Rattle.tpmsim_script.specs.declared.fault.RunFault.{RunFault}
use Rattle.tpmsim_script.specs.declared.fault.RunFault.TheVariants as run
use Rattle.tpmsim_script.specs.declared.script_fault.ScriptFault.{ScriptFault}
use Rattle.tpmsim_script.specs.declared.script_fault.ScriptFault.TheVariants.{Line, Read, Write, NoMemory}

-- the result of a run on a new device. Its saver saves nothing, so that no save fails
abbrev pub script_result : Result (Unit {0}) RunFault → Result (Unit {0}) ScriptFault
script_result (Ok done) = Ok tt
script_result (Err (run.Line number)) = Err (Line number)
script_result (Err run.Read) = Err Read
script_result (Err run.TooManyLines) = Err Read
script_result (Err run.Write) = Err Write
script_result (Err run.Save) = Err Write
script_result (Err run.NoMemory) = Err NoMemory

-- If the script ran to its end, P holds for None. If it stopped at a bad line, P holds for the
-- number of that line. After any other fault, nothing is claimed.
abbrev pub RanScript : (Option ℕ → Type 0) → Result (Unit {0}) ScriptFault → Type 0
RanScript P (Ok done) = P None
RanScript P (Err (Line number)) = P (Some number)
RanScript P (Err other) = Unit {0}

-- The fault Read means that the reader failed, and the first fact holds, or that the second fact
-- holds. The fault Write means that the writer failed.
abbrev pub AreScriptFaults : Result (Unit {0}) ScriptFault → (reader writer : Marks)
    → (on_failed on_too_many : Type 0) → Type 0
AreScriptFaults (Err Read) reader writer on_failed on_too_many =
    ((reader.failed ≡ true) × on_failed) ⊎ on_too_many
AreScriptFaults (Err Write) reader writer on_failed on_too_many = writer.failed ≡ true
AreScriptFaults other reader writer on_failed on_too_many = Unit {0}

-- If there was not enough memory, `fact` holds.
abbrev pub OnScriptNoMemory : Result (Unit {0}) ScriptFault → Type 0 → Type 0
OnScriptNoMemory (Err NoMemory) fact = fact
OnScriptNoMemory other fact = Unit {0}

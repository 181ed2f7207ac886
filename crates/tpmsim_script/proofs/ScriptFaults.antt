-- What holds of a run on a new device, said of the result of its script.
use Rattle.std.proofs.Common.{◌≡◌, ◌⊎◌, true, false, ℕ, Option, Result, Ok, Err, inl, inr}
use Rattle.tpm_bytes.specs.Tap.{Marks}
use Rattle.tpmsim_script.specs.Run.{AreTheirs, OnNoMemory, OnTooMany, OnUnread, Ran}
use Rattle.tpmsim_script.specs.ScriptFault.{AreScriptFaults, OnScriptNoMemory, RanScript, script_result}
use Rattle.tpmsim_script.specs.declared.fault.RunFault.{RunFault}
use Rattle.tpmsim_script.specs.declared.fault.RunFault.TheVariants as run

pub ran : (P : Option ℕ → Type 0) (ended : Result (Unit {0}) RunFault)
    → Ran P ended → RanScript P (script_result ended)
ran P (Ok done) is = is
ran P (Err (run.Line number)) is = is
ran P (Err run.Read) is = tt
ran P (Err run.TooManyLines) is = tt
ran P (Err run.Write) is = tt
ran P (Err run.Save) is = tt
ran P (Err run.NoMemory) is = tt

-- the two facts hold under a condition
pub faults : (condition on_failed on_too_many : Type 0) (ended : Result (Unit {0}) RunFault)
    (reader writer : Marks) → AreTheirs ended reader writer false
    → (condition → OnUnread ended on_failed) → (condition → OnTooMany ended on_too_many)
    → AreScriptFaults (script_result ended) reader writer (condition → on_failed)
    (condition → on_too_many)
faults condition on_failed on_too_many (Ok done) reader writer theirs unread many = tt
faults condition on_failed on_too_many (Err (run.Line n)) reader writer theirs unread many = tt
faults condition on_failed on_too_many (Err run.Read) reader writer theirs unread many =
    inl (theirs, unread)
faults condition on_failed on_too_many (Err run.TooManyLines) reader writer theirs unread many =
    inr many
faults condition on_failed on_too_many (Err run.Write) reader writer theirs unread many = theirs
faults condition on_failed on_too_many (Err run.Save) reader writer theirs unread many = absurd cc
faults condition on_failed on_too_many (Err run.NoMemory) reader writer theirs unread many = tt

pub no_memory : (more fact : Type 0) (ended : Result (Unit {0}) RunFault) → (more → fact)
    → OnNoMemory ended more → OnScriptNoMemory (script_result ended) fact
no_memory more fact (Ok done) fewer is = tt
no_memory more fact (Err (run.Line number)) fewer is = tt
no_memory more fact (Err run.Read) fewer is = tt
no_memory more fact (Err run.TooManyLines) fewer is = tt
no_memory more fact (Err run.Write) fewer is = tt
no_memory more fact (Err run.Save) fewer is = tt
no_memory more fact (Err run.NoMemory) fewer is = fewer is

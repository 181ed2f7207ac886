-- The state of a player, and the effect of a line.
use Rattle.std.specs.Prelude.{◌≡◌, ℕ, Bool, true, List, Option, Some, None, Result, Ok, Err}
use Rattle.std.specs.Io.KnownBytes.{Appends, append_known}
use Rattle.tpm_bytes.specs.Tap.{Marks}
use Rattle.tpm_machine.specs.State.{state_of}
use Rattle.tpm_record.specs.Record.{Record}
use Rattle.tpmsim_script.specs.Answers.{CutOff}
use Rattle.tpmsim_script.specs.Script.{Playing, Effect, script_playing}
use Rattle.tpmsim_script.specs.declared.line_fault.LineFault.{LineFault}
use Rattle.tpmsim_script.specs.declared.line_fault.LineFault.TheVariants.{Bad, Write, Save}
use Rattle.tpmsim_script.specs.declared.player.Player.{Player}

-- the script that a player plays; `record_of` maps the state of the player's device to its record
abbrev pub playing_of : {K S O P N : Type 0} → (K → Record) → Player K S O P N → Playing
playing_of record_of player =
    script_playing player.traced player.script (state_of record_of player.machine)

-- How a line was performed. On success, the line had its effect, and its output was printed after
-- the old contents. If the line is bad, it had no effect and printed nothing. If the writer failed,
-- the line had its effect, but the output was truncated. If the saver failed, nothing was printed.
abbrev pub Did : Option Effect
    → Option (List ℕ) → Playing
    → Result (Unit {0}) LineFault → Option (List ℕ) → Playing → Type 0
Did line old before (Ok done) new after =
    (effect : Effect) × (line ≡ Some effect)
    × Appends old new effect.text × (after ≡ effect.next)
Did line old before (Err Bad) new after = (line ≡ None) × (new ≡ old) × (after ≡ before)
Did line old before (Err Write) new after =
    (effect : Effect) × (line ≡ Some effect)
    × CutOff (append_known old effect.text) new × (after ≡ effect.next)
Did line old before (Err Save) new after = new ≡ old

-- If a line had its effect, the saver was notified. If the line is bad, the saver is unchanged. If
-- a save failed, the saver's state is unspecified.
abbrev pub Told : {S : Type 0} → (S → Type 0) → S → Result (Unit {0}) LineFault → S → Type 0
Told tells old (Ok done) new = tells new
Told tells old (Err Bad) new = new ≡ old
Told tells old (Err Write) new = tells new
Told tells old (Err Save) new = Unit {0}

-- The fault Write means that the writer failed, and Save that the saver failed.
abbrev pub IsTheirs : Result (Unit {0}) LineFault → (writer : Marks) → (unsaved : Bool) → Type 0
IsTheirs (Err Write) writer unsaved = writer.failed ≡ true
IsTheirs (Err Save) writer unsaved = unsaved ≡ true
IsTheirs other writer unsaved = Unit {0}

-- The output of a script. A device plays the script's lines in order; the response to each command
-- is a line of hex, preceded by a trace if requested.
use Rattle.std.specs.Prelude.{◌≡◌, ℕ, ◌+◌, ◌%◌, ◌^◌, ◌&&◌, nat_le, nat_lt, Bool, if◌then◌else◌}
use Rattle.std.specs.Prelude.{List, [], ◌∷◌, ◌++◌, length, map, replicate, slice_index}
use Rattle.std.specs.Prelude.{Option, Some, None, option_map, option_and_then}
use Rattle.std.specs.List.{range_with_len}
use Rattle.std.specs.Io.KnownBytes.{Appends}
use Rattle.std.specs.Result.{result_ok}
use Rattle.hex.specs.Hex.{encode_lower}
use Rattle.tpm_types_common.specs.Locality.{locality_number}
use Rattle.tpm_commands.specs.declared.profile.Profile.{Profile}
use Rattle.tpm_commands.specs.declared.profile.Profile.TheVariants.{Symmetric}
use Rattle.tpm_record.specs.Record.{Record, manufactured_as}
use Rattle.tpm_step.specs.step.Events.{PlainEvent, Given, Cycled}
use Rattle.tpm_step.specs.step.Step.{Stepped, step}
use Rattle.tpm_text.specs.Line.{assembled_for}
use Rattle.tpm_text.specs.Trace.{trace_text}
use Rattle.tpmsim_script.specs.Line.{Meaning, Executes, ExecutesWords, SetsLocality, Waits}
use Rattle.tpmsim_script.specs.Line.{SetsEntropy, CyclesPower, DoesNothing}
use Rattle.tpmsim_script.specs.Line.{bytes_of, line_meaning, lines_of}
use Rattle.tpmsim_script.specs.declared.script.Script.{Script}

-- A script that is being played: whether its events are traced, the locality of its commands, the
-- milliseconds waited since the last command, the random bytes of each command, and the device.
-- Waits before a power cycle also count.
pub record Playing : Type 0 where
  pub traced : Bool
  pub locality : ℕ
  pub waited : ℕ
  pub random : List ℕ
  pub device : Record

-- the script that the code plays, with the trace option and the record of its device
abbrev pub script_playing : Bool → Script → Record → Playing
script_playing traced script device = record {
  traced = traced;
  locality = locality_number script.locality;
  waited = script.waited;
  random = script.random;
  device = device;
}

-- the bytes 00 to ff, with which a new device for scripts is manufactured
abbrev pub script_bytes : List ℕ
script_bytes = range_with_len 0 256

-- the new device of a profile on which a script without an image is played
abbrev pub new_device_as : Profile → Record
new_device_as profile = manufactured_as profile script_bytes

-- the new device of the symmetric profile
abbrev pub new_device : Record
new_device = new_device_as Symmetric

-- the start of a script on this device: locality 0, no elapsed time, and random bytes that are all
-- 0
unfoldable pub at_first : (traced : Bool) → (device : Record) → Playing
at_first traced device = record {
  traced = traced;
  locality = 0;
  waited = 0;
  random = replicate 256 0;
  device = device;
}

-- 256 random bytes, made by repeating these bytes
unfoldable pub repeated : List ℕ → List ℕ
repeated entropy =
    map (λ place. slice_index entropy (place % length entropy)) (range_with_len 0 256)

-- the effect of a line: what it prints, and how the script continues
pub record Effect : Type 0 where
  pub text : List ℕ
  pub next : Playing

-- a response in lower-case hex, and the end of its line
abbrev pub printed_response : List ℕ → List ℕ
printed_response response = encode_lower response ++ 10 ∷ []

-- the effect of a line that prints nothing; the script continues in this state
abbrev pub silence : Playing → Effect
silence p = record { text = []; next = p }

-- the trace of an event with this outcome, and the end of its line; empty if events are not traced
unfoldable pub printed_trace : (traced : Bool) → PlainEvent → Stepped → List ℕ
printed_trace traced event s =
    if traced then trace_text event s.row s.response ++ 10 ∷ [] else []

-- the effect of a command that was executed with this outcome
abbrev pub answer : Playing → PlainEvent → Stepped → Effect
answer p event s = record {
  text = printed_trace p.traced event s ++ printed_response s.response;
  next = record p { waited = 0; device = s.after };
}

-- the event of a command, with the values that earlier lines have set
abbrev pub command_of : Playing → List ℕ → PlainEvent
command_of p buffer = Given buffer p.locality p.waited p.random

-- the effect of a line with this command
abbrev pub execute : Playing → List ℕ → Effect
execute p buffer = answer p (command_of p buffer) (step p.device (command_of p buffer))

-- the effect of a power cycle with this outcome
abbrev pub cycle_to : Playing → Stepped → Effect
cycle_to p s = record {
  text = printed_trace p.traced Cycled s;
  next = record p { device = s.after };
}

abbrev pub cycle : Playing → Effect
cycle p = cycle_to p (step p.device Cycled)

abbrev pub wait : Playing → ℕ → Option Effect
wait p milliseconds =
    if nat_lt (p.waited + milliseconds) (2 ^ 32)
    then Some (silence (record p { waited = p.waited + milliseconds })) else None

-- the effect of a line that sets the random bytes to these bytes, repeated; None unless there are 1
-- to 256 bytes
abbrev pub set_entropy : Playing → List ℕ → Option Effect
set_entropy p entropy =
    if nat_lt 0 (length entropy) && nat_le (length entropy) 256
    then Some (silence (record p { random = repeated entropy })) else None

-- the effect of a line with this meaning; None if the line cannot be performed
abbrev pub perform : Playing → Meaning → Option Effect
perform p (Executes digits) = option_map (execute p) (bytes_of digits)
perform p (ExecutesWords words) =
    option_map (execute p) (result_ok (assembled_for p.device.fixed.profile words))
perform p (SetsLocality number) = Some (silence (record p { locality = number }))
perform p (Waits milliseconds) = wait p milliseconds
perform p (SetsEntropy digits) = option_and_then (set_entropy p) (bytes_of digits)
perform p CyclesPower = Some (cycle p)
perform p DoesNothing = Some (silence p)

-- the effect of a line; None if the line is bad or has more than 65,536 bytes
unfoldable pub perform_line : Playing → List ℕ → Option Effect
perform_line p line =
    if nat_le (length line) 65536 then option_and_then (perform p) (line_meaning line) else None

-- the output of a script, and the number of its first bad line, if any. Lines after a bad line have
-- no effect
pub record Output : Type 0 where
  pub text : List ℕ
  pub bad : Option ℕ

abbrev pub output_before : List ℕ → Output → Output
output_before text p = record { text = text ++ p.text; bad = p.bad }

abbrev pub output_with : Option Effect → ℕ → (Playing → Output) → Output
output_with None number rest = record { text = []; bad = Some number }
output_with (Some effect) number rest = output_before effect.text (rest effect.next)

-- the output of these lines; `number` is the number of the first line
abbrev pub play : Playing → ℕ → List (List ℕ) → Output
play p number [] = record { text = []; bad = None }
play p number (line ∷ lines) =
    output_with (perform_line p line) number (λ next. play next (number + 1) lines)

-- This output was written after the old contents of the writer (`old`), and `bad` is the number
-- of the first bad line, if any.
abbrev pub IsOutput : Option (List ℕ) → Option (List ℕ) → Option ℕ → Output → Type 0
IsOutput old new bad output = Appends old new output.text × (output.bad ≡ bad)

-- A run played the lines of the text from the state `p` on. It wrote their output after the old
-- contents of the writer (`old`). `number` is the number of the first line. `bad` is the number of
-- the first bad line, if any. Nothing is claimed if the text that the reader returns is unknown.
-- Nothing is claimed about the output if the writer's contents are unknown.
abbrev pub Plays : Option (List ℕ) → Option (List ℕ) → Option (List ℕ)
    → Playing → ℕ → Option ℕ → Type 0
Plays None old new p number bad = Unit {0}
Plays (Some text) old new p number bad =
    IsOutput old new bad (play p number (lines_of text))

-- The meaning of a script's line, and how a text is split into lines.
use Rattle.std.specs.Prelude.{◌≡◌, ℕ, ◌+◌, ◌==◌, if◌then◌else◌}
use Rattle.std.specs.Prelude.{List, [], ◌∷◌, take, drop, codes, Result, Ok, Err, ok_or}
use Rattle.std.specs.Prelude.{Option, Some, None, option_map, option_and_then}
use Rattle.std.specs.List.{onto_first, position}
use Rattle.std.specs.Result.{result_ok}
use Rattle.hex.specs.Hex.{decode_of}
use Rattle.tpm_types_common.specs.Locality.{locality_number}
use Rattle.tpm_number.specs.Number.{decimal_of, is_word, locality_of}
use Rattle.tpmsim_script.specs.BadLine.{missing_argument, misplaced, number_fault, unknown_word}
use Rattle.tpmsim_script.specs.declared.bad_line.BadLine.{BadLine}
use Rattle.tpmsim_script.specs.declared.bad_line.Wanted.TheVariants as wanted
use Rattle.tpmsim_script.specs.declared.line.Line as declared
use Rattle.tpmsim_script.specs.declared.line.Line.TheVariants as code

-- the lines of a text, without the 0a that ends each of them. The last line may lack its 0a. A 0a
-- at the end of the text starts no further line
abbrev pub lines_of : List ℕ → List (List ℕ)
lines_of [] = []
lines_of (byte ∷ text) = if byte == 10 then [] ∷ lines_of text else onto_first byte (lines_of text)

-- The meaning of a line: a command in hex or in words, neither of which is decoded here; the
-- locality of later commands; the milliseconds before the next command; the random bytes of later
-- commands, in hex; a power cycle; or nothing.
pub data Meaning : Type 0 where
  Executes : (digits : List ℕ) → Meaning
  ExecutesWords : (words : List ℕ) → Meaning
  SetsLocality : (number : ℕ) → Meaning
  Waits : (milliseconds : ℕ) → Meaning
  SetsEntropy : (digits : List ℕ) → Meaning
  CyclesPower : Meaning
  DoesNothing : Meaning

-- the bytes that hex digits of either case encode; None if the number of digits is odd, or a
-- character is not a hex digit
abbrev pub bytes_of : List ℕ → Option (List ℕ)
bytes_of digits = result_ok (decode_of digits)

-- the meaning of a line that consists of one word, or the reason why it is bad
unfoldable pub reading_alone : List ℕ → Result Meaning BadLine
reading_alone word =
    if is_word (codes "cmd") word then Ok (Executes [])
    else if is_word (codes "power") word then Ok CyclesPower
    else if is_word (codes "do") word then Err (missing_argument wanted.Command)
    else if is_word (codes "loc") word then Err (missing_argument wanted.Locality)
    else if is_word (codes "wait") word then Err (missing_argument wanted.Milliseconds)
    else if is_word (codes "entropy") word then Err (missing_argument wanted.Entropy)
    else Err unknown_word

-- the meaning of the argument of `loc`
abbrev pub locality_reading : List ℕ → Result Meaning BadLine
locality_reading argument =
    ok_or (option_map SetsLocality (option_and_then locality_of (decimal_of argument)))
    (number_fault argument wanted.Locality)

-- the meaning of the argument of `wait`
abbrev pub wait_reading : List ℕ → Result Meaning BadLine
wait_reading argument = ok_or (option_map Waits (decimal_of argument))
    (number_fault argument wanted.Milliseconds)

-- the meaning of a line that consists of a word, a space and an argument, or the reason why it is
-- bad
unfoldable pub reading_with : List ℕ → List ℕ → Result Meaning BadLine
reading_with word argument =
    if is_word (codes "cmd") word then Ok (Executes argument)
    else if is_word (codes "do") word then Ok (ExecutesWords argument)
    else if is_word (codes "loc") word then locality_reading argument
    else if is_word (codes "wait") word then wait_reading argument
    else if is_word (codes "entropy") word then Ok (SetsEntropy argument)
    else if is_word (codes "power") word then Err (misplaced wanted.End)
    else Err unknown_word

-- the meaning of a text, whose first word ends at the space with this offset; if there is no space,
-- the whole text is its first word
abbrev pub reading_by : Option ℕ → List ℕ → Result Meaning BadLine
reading_by None text = reading_alone text
reading_by (Some space) text = reading_with (take space text) (drop (space + 1) text)

-- the meaning of a line, or the reason why it is bad; a line that is empty or begins with `#` is
-- good and has no effect
unfoldable pub line_reading : List ℕ → Result Meaning BadLine
line_reading [] = Ok DoesNothing
line_reading (first ∷ text) =
    if first == 35 then Ok DoesNothing
    else reading_by (position (λ byte. byte == 32) (first ∷ text)) (first ∷ text)

-- the meaning of a line; None if the line is bad
abbrev pub line_meaning : List ℕ → Option Meaning
line_meaning line = result_ok (line_reading line)

-- the meaning of a parsed line
abbrev pub meaning_of : declared.Line → Meaning
meaning_of (code.Command digits) = Executes digits.now
meaning_of (code.Words words) = ExecutesWords words.now
meaning_of (code.Locality locality) = SetsLocality (locality_number locality)
meaning_of (code.Wait milliseconds) = Waits milliseconds
meaning_of (code.Entropy digits) = SetsEntropy digits.now
meaning_of code.PowerCycle = CyclesPower
meaning_of code.Nothing = DoesNothing

-- the hex digits in a line, not decoded; empty if the line has no hex
abbrev pub hex_of : Meaning → List ℕ
hex_of (Executes digits) = digits
hex_of (SetsEntropy digits) = digits
hex_of other = []

-- A parser returned the meaning of a text, or refused the text because it is bad.
abbrev pub Tells : {X Y E : Type 0} → (X → Y) → Result X E → Option Y → Type 0
Tells view (Ok x) says = says ≡ Some (view x)
Tells view (Err e) says = says ≡ None

-- The contents of the buffer of a script's lines.
use Rattle.std.specs.Prelude.{◌≡◌, ℕ, ◌==◌, ◌<◌, ◌≤◌, Bool, true, false}
use Rattle.std.specs.Prelude.{List, [], ◌∷◌, ◌++◌, length, Option, Some, None}
use Rattle.std.specs.List.{All, slice_range}
use Rattle.std.specs.Io.KnownBytes.{Consumes, IsAtEnd, prepend_known}
use Rattle.tpmsim_script.specs.Line.{lines_of}
use Rattle.tpmsim_script.specs.declared.lines.Lines.{Lines}
use Rattle.tpmsim_script.specs.declared.lines.Next.{Next}
use Rattle.tpmsim_script.specs.declared.lines.Next.TheVariants.{Line, TooLong, Incomplete, End}

-- the line that was found last, or the part of the next line that has been read
abbrev pub line_of : Lines → List ℕ
line_of lines = lines.line.items

-- the bytes that were read and do not belong to a line yet
abbrev pub rest_of : Lines → List ℕ
rest_of lines = slice_range lines.bytes.items lines.next lines.filled

-- None of these bytes ends a line.
abbrev pub IsUnbroken : List ℕ → Type 0
IsUnbroken bytes = All (λ byte. (byte == 10) ≡ false) bytes

-- the result of a search that did not find the end of a line. If the reader has not ended, more
-- bytes may follow. If it has ended, the line is the last line, or the text is at its end
abbrev pub next_at : Bool → List ℕ → Next
next_at false line = Incomplete
next_at true [] = End
next_at true (byte ∷ line) = Line

-- The reader may return these further bytes. A reader that has ended returns no further bytes.
abbrev pub MayFollow : Lines → List ℕ → Type 0
MayFollow lines more = lines.ended ≡ true → more ≡ []

-- The first line of a text is longer than 65,536 bytes.
abbrev pub BeginsTooLong : List ℕ → Type 0
BeginsTooLong text =
    (line : List ℕ) × (rest : List (List ℕ))
    × (lines_of text ≡ line ∷ rest) × (65536 < length line)

-- The result of a search for the next line is correct for all bytes that the reader may return from
-- now on. The next line was found, or is too long, or is incomplete, or does not exist.
abbrev pub Finds : Lines → Next → Lines → Type 0
Finds old Line new = (more : List ℕ) → MayFollow old more
    → lines_of (line_of old ++ (rest_of old ++ more))
    ≡ line_of new ∷ lines_of (rest_of new ++ more)
Finds old TooLong new = (more : List ℕ) → BeginsTooLong (line_of old ++ (rest_of old ++ more))
Finds old Incomplete new =
    (line_of new ≡ line_of old ++ rest_of old) × (rest_of new ≡ [])
    × IsUnbroken (line_of new) × (old.ended ≡ false) × (length (line_of new) ≤ 65536)
Finds old End new = (line_of old ++ rest_of old ≡ []) × (rest_of new ≡ []) × (old.ended ≡ true)

-- If the flag of the line buffer says that the reader has ended, then the reader has ended.
abbrev pub Agrees : Option (List ℕ) → Lines → Type 0
Agrees remaining lines = lines.ended ≡ true → IsAtEnd remaining

-- the rest of a script after the line that was found last; None if it is unknown what the reader
-- will return
abbrev pub text_left : Option (List ℕ) → Lines → Option (List ℕ)
text_left remaining lines = prepend_known (rest_of lines) remaining

-- This line, the first line of a text, was read.
abbrev pub LosesFirstLine : Option (List ℕ) → List ℕ → Option (List ℕ) → Type 0
LosesFirstLine None line new = Unit {0}
LosesFirstLine (Some text) line None = ⊥
LosesFirstLine (Some text) line (Some rest) = lines_of text ≡ line ∷ lines_of rest

-- Bytes at the beginning of a text were read, and none of them ends a line.
abbrev pub LosesStart : Option (List ℕ) → Option (List ℕ) → Type 0
LosesStart old new = (start : List ℕ) × IsUnbroken start × Consumes old new start

-- Lemmas about splitting a text into lines.
use Rattle.std.proofs.Common.{◌≡◌, ℕ, ◌+◌, ◌-◌, ◌<◌, ◌≤◌, ◌==◌, Bool, true, false, cond, List, [], ◌∷◌, ◌++◌, length, take, drop, get_or, Option, Some, None, IfSome, refl, sym, ap, ◌∙◌, subst, append_assoc, append-nil, drop-drop, length-append, arith}
use Rattle.std.specs.List.{onto_first, position, slice_range}
use Rattle.std.proofs.lemmas.Bool.{eqb-true}
use Rattle.std.proofs.lemmas.Grind.{common_steps}
use Rattle.std.proofs.lemmas.List.{drop-take, drop_more, get_or-take, length-take-le, take-append-drop}
use Rattle.std.proofs.lemmas.List.Elements.{All-append, All-head, All-tail}
use Rattle.std.proofs.lemmas.List.Quantifiers.{position-Some}
use Rattle.std.proofs.lemmas.List.Sums.{fails_before_first}
use Rattle.std.specs.Io.KnownBytes.{Keeps, prepend_known}
use Rattle.tpmsim_script.specs.Line.{lines_of}
use Rattle.tpmsim_script.specs.Lines.{BeginsTooLong, Finds, IsUnbroken, line_of, next_at, rest_of}
use Rattle.tpmsim_script.specs.declared.lines.Lines.{Lines}

-- whether a byte ends a line
abbrev is_break : ℕ → Bool
is_break byte = byte == 10

abbrev IsWithin : ℕ → Type 0
IsWithin byte = is_break byte ≡ false

onto_line : (byte : ℕ) (text : List ℕ) → is_break byte ≡ false
    → lines_of (byte ∷ text) ≡ onto_first byte (lines_of text)
onto_line byte text e = ap (λ b. cond b ([] ∷ lines_of text) (onto_first byte (lines_of text))) e

line_ended : (line rest : List ℕ) → IsUnbroken line
    → lines_of (line ++ 10 ∷ rest) ≡ line ∷ lines_of rest
line_ended [] rest h = refl
line_ended (byte ∷ line) rest h = onto_line byte (line ++ 10 ∷ rest) (All-head IsWithin byte line h)
    ∙ ap (onto_first byte) (line_ended line rest (All-tail IsWithin byte line h))

last_line : (byte : ℕ) (line : List ℕ) → IsUnbroken (byte ∷ line)
    → lines_of (byte ∷ line) ≡ (byte ∷ line) ∷ []
last_line byte [] h = onto_line byte [] (All-head IsWithin byte [] h)
last_line byte (next ∷ line) h =
    onto_line byte (next ∷ line) (All-head IsWithin byte (next ∷ line) h)
    ∙ ap (onto_first byte) (last_line next line (All-tail IsWithin byte (next ∷ line) h))

only_line : (line : List ℕ) → IsUnbroken line → 0 < length line → lines_of line ≡ line ∷ []
only_line [] h some = absurd (omega arith)
only_line (byte ∷ line) h some = last_line byte line h

-- The first line of a text is at least this long.
abbrev BeginsWith : List ℕ → ℕ → Type 0
BeginsWith text size = (line : List ℕ) × (rest : List (List ℕ)) × (lines_of text ≡ line ∷ rest)
    × (size ≤ length line)

begun_first : (byte : ℕ) (lines : List (List ℕ)) → (line : List ℕ) × (rest : List (List ℕ))
    × (onto_first byte lines ≡ line ∷ rest) × (1 ≤ length line)
begun_first byte [] = (byte ∷ [], [], refl, omega arith)
begun_first byte (line ∷ lines) = (byte ∷ line, lines, refl, omega arith)

line_begun : (byte : ℕ) (line more : List ℕ) → IsUnbroken (byte ∷ line)
    → BeginsWith (byte ∷ line ++ more) (length (byte ∷ line))
line_begun byte [] more h =
    let first = begun_first byte (lines_of more) in
    (first.0, first.1, onto_line byte more (All-head IsWithin byte [] h) ∙ first.2, first.3)
line_begun byte (next ∷ line) more h =
    let rest = line_begun next line more (All-tail IsWithin byte (next ∷ line) h) in (
      byte ∷ rest.0,
      rest.1,
      onto_line byte (next ∷ line ++ more)
          (All-head IsWithin byte (next ∷ line) h) ∙ ap (onto_first byte) rest.2,
      omega (arith, rest.3),
    )

too_long : (line more : List ℕ) → IsUnbroken line → 65536 < length line
    → BeginsTooLong (line ++ more)
too_long [] more h l = absurd (omega arith)
too_long (byte ∷ line) more h l = let begun =
    line_begun byte line more h in (begun.0, begun.1, begun.2, omega (arith, begun.3))

before_break : (rest : List ℕ) (at : ℕ) → position is_break rest ≡ Some at
    → IsUnbroken (take at rest)
before_break rest at e = λ k d l. let found = position-Some is_break rest at d e in
    let short : k < at = omega (arith, length-take-le at rest (omega (arith, found.0))) in
    ap is_break (get_or-take at rest k d short) ∙ found.2 k short

at_break : (rest : List ℕ) (at : ℕ) → position is_break rest ≡ Some at
    → rest ≡ take at rest ++ 10 ∷ drop (at + 1) rest
at_break rest at e =
    let found = position-Some is_break rest at 0 e in
    let ten : get_or rest at 0 ≡ 10 = eqb-true _ _ found.1 in
    sym (take-append-drop at rest) ∙ ap (λ l. take at rest ++ l) (drop_more rest at 0 found.0)
    ∙ ap (λ byte. take at rest ++ byte ∷ drop (at + 1) rest) ten

no_break : (rest : List ℕ) → position is_break rest ≡ None → IsUnbroken rest
no_break rest e = λ k d l. fails_before_first is_break rest k d (grind (arith, common_steps))

-- ---- searching for the end of a line in the bytes that were read

regrouped : (a b c d : List ℕ) → a ++ ((b ++ c) ++ d) ≡ (a ++ b) ++ (c ++ d)
regrouped a b c d = simp append_assoc

-- If the bytes that were read contain a 0a, the line ends there.
pub found_line : (line rest more : List ℕ) (at : ℕ) → IsUnbroken line
    → position is_break rest ≡ Some at
    → lines_of (line ++ (rest ++ more)) ≡ (line ++ take at rest)
    ∷ lines_of (drop (at + 1) rest ++ more)
found_line line rest more at h e =
    let front = All-append IsWithin line (take at rest) h (before_break rest at e) in
    let cut : line ++ (rest ++ more) ≡ (line ++ take at rest) ++ 10 ∷ (drop (at + 1) rest ++ more) =
    ap (λ l. line ++ (l ++ more)) (at_break rest at e)
    ∙ regrouped line (take at rest) (10 ∷ drop (at + 1) rest) more in
    ap lines_of cut ∙ line_ended (line ++ take at rest) (drop (at + 1) rest ++ more) front

-- If more than 65,536 bytes of a line precede the first 0a, the line is too long.
pub found_too_long : (line rest more : List ℕ) (at : ℕ) → IsUnbroken line
    → position is_break rest ≡ Some at → 65536 < length line + at
    → BeginsTooLong (line ++ (rest ++ more))
found_too_long line rest more at h e long =
    let front = All-append IsWithin line (take at rest) h (before_break rest at e) in
    let inside = (position-Some is_break rest at 0 e).0 in
    let size : length (line ++ take at rest) ≡ length line + at =
    length-append line (take at rest)
    ∙ ap (λ n. length line + n) (length-take-le at rest (omega (arith, inside))) in
    let cut : line ++ (rest ++ more) ≡ (line ++ take at rest) ++ (drop at rest ++ more) =
    ap (λ l. line ++ (l ++ more)) (sym (take-append-drop at rest))
    ∙ regrouped line (take at rest) (drop at rest) more in
    subst BeginsTooLong (sym cut)
    (too_long (line ++ take at rest) (drop at rest ++ more) front (omega (arith, size)))

-- If none of the bytes that were read is a 0a, the line continues after them.
pub found_more : (line rest : List ℕ) → IsUnbroken line → position is_break rest ≡ None
    → IsUnbroken (line ++ rest)
found_more line rest h e = All-append IsWithin line rest h (no_break rest e)

-- If the line so far and all bytes that were read contain no 0a, and have more than 65,536 bytes in
-- total, the line is too long.
pub found_no_end : (line rest more : List ℕ) → IsUnbroken line → position is_break rest ≡ None
    → 65536 < length line + length rest → BeginsTooLong (line ++ (rest ++ more))
found_no_end line rest more h e long =
    let whole = found_more line rest h e in
    subst BeginsTooLong (append_assoc line rest more)
    (too_long (line ++ rest) more whole (omega (arith, length-append line rest)))

-- If no 0a is found and nothing follows, the line is the last one of the text.
pub found_last : (line rest more : List ℕ) → IsUnbroken line → position is_break rest ≡ None
    → more ≡ [] → 0 < length (line ++ rest)
    → lines_of (line ++ (rest ++ more)) ≡ (line ++ rest) ∷ lines_of ([] ++ more)
found_last line rest more h e none some =
    let cut : line ++ (rest ++ more) ≡ line ++ rest =
    ap (λ l. line ++ (rest ++ l)) none ∙ ap (λ l. line ++ l) (append-nil rest) in
    ap lines_of cut ∙ only_line (line ++ rest) (found_more line rest h e) some
    ∙ ap (λ l. (line ++ rest) ∷ lines_of l) (sym none)

pub rest_behind : (bytes : List ℕ) (from count end : ℕ) → from + count ≤ end
    → slice_range bytes (from + count) end ≡ drop count (slice_range bytes from end)
rest_behind bytes from count end h =
    let size : end - from ≡ count + (end - (from + count)) = omega arith in
    sym (ap (λ n. drop count (take n (drop from bytes))) size
    ∙ drop-take count (end - (from + count)) (drop from bytes)
    ∙ ap (λ l. take (end - (from + count)) l) (drop-drop count from bytes))

-- If the bytes that were read contain no 0a, the next line is incomplete, or is the last line, or
-- does not exist.
pub stopped_finds : (old new : Lines) (ended : Bool) (line : List ℕ) → old.ended ≡ ended
    → line_of new ≡ line → line_of new ≡ line_of old ++ rest_of old → rest_of new ≡ []
    → IsUnbroken (line_of old) → position is_break (rest_of old) ≡ None
    → length (line_of new) ≤ 65536 → Finds old (next_at ended line) new
stopped_finds old new false line e l whole behind h none short = (
  whole,
  behind,
  subst IsUnbroken (sym whole) (found_more (line_of old) (rest_of old) h none),
  e,
  short,
)
stopped_finds old new true [] e l whole behind h none short = (sym whole ∙ l, behind, e)
stopped_finds old new true (byte ∷ line) e l whole behind h none short = λ more follows.
    let some : 0 < length (line_of old ++ rest_of old) = omega (arith, ap length (sym whole ∙ l)) in
    found_last (line_of old) (rest_of old) more h none (follows e) some
    ∙ ap (λ (x : List ℕ). x ∷ lines_of ([] ++ more)) (sym whole)
    ∙ ap (λ (rest : List ℕ). line_of new ∷ lines_of (rest ++ more)) (sym behind)

-- If the bytes that were read begin with a line that is too long, the whole remaining text begins
-- with a line that is too long.
pub too_long_left : (left remaining : Option (List ℕ)) (line rest : List ℕ)
    → Keeps left (prepend_known (line ++ rest) remaining)
    → ((more : List ℕ) → BeginsTooLong (line ++ (rest ++ more)))
    → IfSome left BeginsTooLong
too_long_left None remaining line rest h long = tt
too_long_left (Some text) None line rest h long = absurd h
too_long_left (Some text) (Some more) line rest h long =
    subst BeginsTooLong (sym (append_assoc line rest more) ∙ h) (long more)

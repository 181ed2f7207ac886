-- The pieces of the input are at the expected offsets.
use Rattle.std.proofs.Common.{◌≡◌, ℕ, ◌*◌, ◌+◌, List, [], ◌∷◌, ◌++◌, length, take, drop, Result, Ok, IsErr, refl, ap, sym, ◌∙◌, append_assoc, arith, length-append, take_all}
use Rattle.std.specs.Prelude.{MatchResult, true, nat_eq}
use Rattle.std.specs.Cmp.Lexicographic.{pointwise}
use Rattle.std.specs.Int.{w64, to_be_bytes}
use Rattle.std.proofs.lemmas.Bool.{eq-eqb}
use Rattle.std.proofs.lemmas.List.{take_at, drop_at, take-append-drop}
use Rattle.hex.specs.Hex.{decode_of, encode_lower, encode_with, lower_digits}
use Rattle.hex.proofs.HexLemmas.{decode_of-encode_lower, length-encode_with}
use Rattle.tpm_bytes.specs.Reading.{AreBytes}
use Rattle.tpm_bytes.proofs.Fields.{ok_is}
use Rattle.hex.specs.declared.error.FromHexError.{FromHexError}
use Rattle.tpm_journal_text.specs.Marked.{marked_line}
use Rattle.tpm_hex.specs.declared.NotHex.{NotHex}

-- A piece is at its offset in the input, whatever follows it.
pub piece_in : (front piece back text : List ℕ) (size place count : ℕ)
    → take size text ≡ front ++ piece ++ back
    → length front ≡ place → length piece ≡ count → take count (drop place text) ≡ piece
piece_in front piece back text size place count e at of =
    let whole : text ≡ front ++ (piece ++ (back ++ drop size text)) =
    sym (take-append-drop size text) ∙ ap (λ (t : List ℕ). t ++ drop size text) e
    ∙ append_assoc (front ++ piece) back (drop size text)
    ∙ append_assoc front piece (back ++ drop size text) in
    ap (λ (t : List ℕ). take count (drop place t)) whole
    ∙ rw (
      drop_at front (piece ++ (back ++ drop size text)) place at,
      take_at piece (back ++ drop size text) count of,
    ) refl

-- Digits that encode bytes are decoded to these bytes.
pub digits_read : (digits bytes new : List ℕ) (result : Result (Unit {0}) NotHex)
    → MatchResult (decode_of digits) (λ read. (result ≡ Ok tt) × (new ≡ read))
    (λ fault. IsErr result)
    → digits ≡ encode_lower bytes → AreBytes bytes → (result ≡ Ok tt) × (new ≡ bytes)
digits_read digits bytes new result read e are = rw (e, decode_of-encode_lower bytes are) at read

-- ---- a marked line

pub line_parts : (word bytes : List ℕ) (sum : ℕ) → marked_line word bytes sum
    ≡ word ++ encode_lower bytes ++ (32 ∷ [] ++ (encode_lower (to_be_bytes w64 sum) ++ 10 ∷ []))
unfolding marked_line
line_parts word bytes sum =
    append_assoc (word ++ encode_lower bytes ++ 32 ∷ []) (encode_lower (to_be_bytes w64 sum))
    (10 ∷ [])
    ∙ append_assoc (word ++ encode_lower bytes) (32 ∷ [])
    (encode_lower (to_be_bytes w64 sum) ++ 10 ∷ [])

-- In a marked line, the hex digits of the bytes follow the word.
pub line_digits : (word bytes text : List ℕ) (sum size count : ℕ) → length bytes ≡ count
    → take size text ≡ marked_line word bytes sum
    → take (2 * count) (drop (length word) text) ≡ encode_lower bytes
line_digits word bytes text sum size count many there =
    piece_in word (encode_lower bytes) (32 ∷ [] ++ (encode_lower (to_be_bytes w64 sum) ++ 10 ∷ []))
    text size
    (length word) (2 * count) (there ∙ line_parts word bytes sum) refl
    (length-encode_with lower_digits bytes ∙ ap (λ (n : ℕ). 2 * n) many)

-- ---- comparing bytes

all_equal : (text : List ℕ) → pointwise nat_eq text text ≡ true
all_equal [] = refl
all_equal (byte ∷ text) = rw (eq-eqb byte byte refl, all_equal text) refl

pub same_is_equal : (text other : List ℕ) → text ≡ other → pointwise nat_eq text other ≡ true
same_is_equal text other e = rw (← e) (all_equal text)

-- Input that consists of a prefix and further bytes begins with the prefix.
pub front_of : (front rest text : List ℕ) (size : ℕ) → length front ≡ size → text ≡ front ++ rest
    → take size text ≡ front
front_of front rest text size many e = ap (take size) e ∙ take_at front rest size many

pub line_length : (word bytes : List ℕ) (sum count : ℕ) → length bytes ≡ count
    → length (marked_line word bytes sum) ≡ length word + 2 * count + 18
unfolding marked_line
line_length word bytes sum count many =
    let head = length-append word (encode_lower bytes) in
    let a = length-append (word ++ encode_lower bytes) (32 ∷ []) in
    let b = length-append (word ++ encode_lower bytes ++ 32 ∷ [])
    (encode_lower (to_be_bytes w64 sum)) in
    let c =
    length-append (word ++ encode_lower bytes ++ 32 ∷ [] ++ encode_lower (to_be_bytes w64 sum))
    (10 ∷ []) in
    let d = length-encode_with lower_digits bytes in
    let e = length-encode_with lower_digits (to_be_bytes w64 sum) in
    omega (arith, head, a, b, c, d, e, many)

-- If two lists of bytes have the same hex encoding, they are equal.
pub hex_same : (bytes others : List ℕ) → AreBytes bytes → AreBytes others
    → encode_lower bytes ≡ encode_lower others → bytes ≡ others
hex_same bytes others are others_are e =
    ok_is {E = FromHexError} bytes others
    (sym (decode_of-encode_lower bytes are) ∙ ap decode_of e
    ∙ decode_of-encode_lower others others_are)

-- If two marked lines are equal, their bytes are equal.
pub line_same : (word bytes others : List ℕ) (sum other_sum : ℕ) → AreBytes bytes → AreBytes others
    → length bytes ≡ length others
    → marked_line word bytes sum ≡ marked_line word others other_sum → bytes ≡ others
line_same word bytes others sum other_sum are others_are many e =
    let size = length word + 2 * length others + 18 in
    let text = marked_line word bytes sum in
    let whole : take size text ≡ text =
    take_all size text (omega (arith, line_length word bytes sum (length others) many)) in
    hex_same bytes others are others_are
    (sym (line_digits word bytes text sum size (length others) many whole)
    ∙ line_digits word others text other_sum size (length others) refl (whole ∙ e))

-- The hex encoding of two joined parts is that of the first part, followed by that of the second
-- part.
hex_parts : (front back : List ℕ) → encode_lower (front ++ back)
    ≡ encode_lower front ++ encode_lower back
unfolding encode_with
hex_parts [] back = refl
hex_parts (byte ∷ front) back =
    ap (λ (l : List ℕ). encode_lower (byte ∷ []) ++ l) (hex_parts front back)

pub hex_joined : (before front back end : List ℕ)
    → before ++ encode_lower front ++ encode_lower back ++ end
    ≡ before ++ encode_lower (front ++ back) ++ end
hex_joined before front back end =
    ap (λ (l : List ℕ). l ++ end) (append_assoc before (encode_lower front) (encode_lower back)
    ∙ ap (λ (l : List ℕ). before ++ l) (sym (hex_parts front back)))

-- Lemmas about lines, which contain no line feed, and about splitting bytes into lines.
use Rattle.std.proofs.Common.{◌≡◌, ℕ, ◌+◌, ◌==◌, Bool, false, cond, List, [], ◌∷◌, ◌++◌, Some, None, refl, sym, ap, ◌∙◌, inl, inr, arith}
use Rattle.std.specs.Prelude.{slice_index}
use Rattle.std.specs.List.{AllByRecursion, onto_first}
use Rattle.hex.specs.Hex.{encode_lower, encode_with, hex_digit_value, lower_digits}
use Rattle.hex.proofs.HexLemmas.{IsDigits-lower_digits}
use Rattle.std.proofs.lemmas.Bool.{cases_lt}
use Rattle.std.proofs.lemmas.List.{get_or_past}
use Rattle.tpmsim_script.specs.Line.{lines_of}

-- The bytes contain no line feed.
abbrev pub Unbroken : List ℕ → Type 0
Unbroken text = AllByRecursion (λ byte. (byte == 10) ≡ false) text

pub unbroken_joined : (front back : List ℕ) → Unbroken front → Unbroken back
    → Unbroken (front ++ back)
unbroken_joined [] back f b = b
unbroken_joined (byte ∷ front) back f b = (f.0, unbroken_joined front back f.1 b)

-- The first line of a text ends before the first line feed.
pub line_first : (line rest : List ℕ) → Unbroken line
    → lines_of (line ++ 10 ∷ rest) ≡ line ∷ lines_of rest
line_first [] rest h = refl
line_first (byte ∷ line) rest h =
    ap (λ (b : Bool). cond b ([] ∷ lines_of (line ++ 10 ∷ rest))
    (onto_first byte (lines_of (line ++ 10 ∷ rest)))) h.0
    ∙ ap (onto_first byte) (line_first line rest h.1)

digit_unbroken : (d : ℕ) → (slice_index lower_digits d == 10) ≡ false
digit_unbroken d = other (slice_index lower_digits d) (digit_is_no_feed d)
  where
    digit_is_no_feed : (d : ℕ) → slice_index lower_digits d ≡ 10 → ⊥
    digit_is_no_feed d e =
        elim (cases_lt d 16) [
          | inl small ↦
              let some : Some d ≡ None = sym (IsDigits-lower_digits d small)
              ∙ ap hex_digit_value e in
              cc some
          | inr large ↦
              let past : 0 ≡ 10 = sym (get_or_past lower_digits d 0 large) ∙ e in
              absurd (omega (arith, past))
        ]

    other : (byte : ℕ) → (byte ≡ 10 → ⊥) → (byte == 10) ≡ false
    other byte h = grind (arith)

pub hex_unbroken : (bytes : List ℕ) → Unbroken (encode_lower bytes)
unfolding encode_with
hex_unbroken [] = tt
hex_unbroken (byte ∷ bytes) = (digit_unbroken _, (digit_unbroken _, hex_unbroken bytes))

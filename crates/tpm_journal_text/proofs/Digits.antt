-- Lemmas about comparing hex digits, pair by pair, with the hex encoding of bytes.
use Rattle.std.proofs.Common.{◌≡◌, ℕ, ◌+◌, ◌*◌, ◌/◌, ◌%◌, ◌<◌, eqb, ◌&&◌, Bool, true, false, List, [], ◌∷◌, ◌++◌, length, take, drop, slice_index, Option, Some, None, IfNone, refl, sym, ◌∙◌}
use Rattle.std.specs.Prelude.{codes}
use Rattle.std.specs.Str.{bytes_eq}
use Rattle.hex.specs.Hex.{encode_lower, encode_with, lower_digits}
use Rattle.hex.proofs.Pairs.{drop-pair, encode_with-drop}
use Rattle.tpm_journal_text.proofs.Parsing.{behind_front}

regrouped : (a b rest : Bool) → (a && (b && rest)) ≡ ((a && (b && true)) && rest)
regrouped true true rest = refl
regrouped true false rest = refl
regrouped false b rest = refl

-- The remaining digits match exactly when the next pair matches and the digits after it match.
pub pair_compared : (digits bytes pair : List ℕ) (place : ℕ) → 2 * place + 1 < length digits
    → place < length bytes
    → pair ≡ encode_lower (slice_index bytes place ∷ [])
    → bytes_eq (drop (2 * place) digits) (encode_lower (drop place bytes))
    ≡ (bytes_eq (take 2 (drop (2 * place) digits)) pair
    && bytes_eq (drop (2 * (place + 1)) digits) (encode_lower (drop (place + 1) bytes)))
unfolding encode_with
pair_compared digits bytes pair place fits more is =
    rw (drop-pair digits place fits, encode_with-drop lower_digits bytes place more, is)
    (regrouped (eqb (slice_index digits (2 * place))
    (slice_index lower_digits (slice_index bytes place / 16)))
    (eqb (slice_index digits (2 * place + 1))
    (slice_index lower_digits (slice_index bytes place % 16)))
    (bytes_eq (drop (2 * (place + 1)) digits) (encode_lower (drop (place + 1) bytes))))

pub none_left : (digits bytes : List ℕ) → length digits ≡ 0 → length bytes ≡ 0
    → bytes_eq digits (encode_lower bytes) ≡ true
unfolding encode_with
none_left [] [] e f = refl
none_left [] (b ∷ bytes) e f = absurd cc
none_left (d ∷ digits) bytes e f = absurd cc

-- If no line feed follows the hex digits of a head's content, the input does not begin with the
-- line for this content.
pub end_missing : {X : Type 0} (text digits image end : List ℕ) (found : Option X) → text ≡ codes "# " ++ digits
    → digits ≡ encode_lower image ++ end
    → IfNone found ((rest : List ℕ) → end ≡ 10 ∷ [] ++ rest → ⊥)
    → IfNone found ((rest : List ℕ) → text ≡ codes "# " ++ (encode_lower image ++ (10 ∷ [] ++ rest)) → ⊥)
end_missing text digits image end (Some x) e d none = none
end_missing text digits image end None e d none = λ rest t.
    none rest (behind_front (encode_lower image) end (10 ∷ [] ++ rest) (sym d ∙ behind_front (codes "# ") digits _ (sym e ∙ t)))

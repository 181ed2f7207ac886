-- A line that is neither empty nor a comment has the meaning of the words in it.
use Rattle.std.proofs.Common.{◌≡◌, ℕ, ◌==◌, List, [], ◌∷◌, length, get_or, refl, cond, ap, Ok}
use Rattle.std.specs.List.{position}
use Rattle.std.proofs.lemmas.Bool.{ne_eqb}
use Rattle.tpmsim_script.specs.Line.{DoesNothing, line_reading, reading_by}

pub read_by_words : (text : List ℕ) → (length text ≡ 0 → ⊥) → (get_or text 0 0 ≡ 35 → ⊥)
    → line_reading text ≡ reading_by (position (λ byte. byte == 32) text) text
unfolding line_reading
read_by_words [] some plain = absurd (some refl)
read_by_words (first ∷ text) some plain =
    ap (λ b. cond b (Ok DoesNothing)
    (reading_by (position (λ byte. byte == 32) (first ∷ text)) (first ∷ text)))
    (ne_eqb first 35 plain)

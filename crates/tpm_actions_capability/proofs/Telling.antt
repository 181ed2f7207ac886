-- The bytes written so far, followed by the encoding of the remaining elements, are the complete
-- encoding of the list.
use Rattle.std.proofs.Common.{arith, ◌≡◌, ℕ, zero, suc, ◌-◌, ◌≢◌, true, false, List, ◌∷◌, ◌++◌, filter, take, refl, ap, sym, ◌∙◌}
use Rattle.std.proofs.lemmas.List.{append_assoc}
use Rattle.std.proofs.lemmas.List.Concat.{flat_map-cons}
use Rattle.tpm_actions_capability.specs.Element.{is_from, text_of, told_text}
use Rattle.tpm_actions_capability.specs.declared.element.Element.{Element}
use Rattle.tpm_actions_capability.specs.declared.element.Telling.{Telling}

-- Writing an element reduces by one the number of elements that may still be written. The complete
-- encoding does not change.
pub told_one : (telling : Telling) (from left : ℕ) (text new : List ℕ) (e : Element)
    (es : List Element) → left ≢ 0 → is_from from e ≡ true → new ≡ text ++ told_text telling e
    → new ++ text_of telling from (left - 1) es ≡ text ++ text_of telling from left (e ∷ es)
told_one telling from zero text new e es some is told = absurd (some refl)
told_one telling from (suc left) text new e es some is told =
    let one : suc left - 1 ≡ left = omega arith in
    rw (told, one, is) (append_assoc text (told_text telling e) (text_of telling from left es)
    ∙ ap (λ (l : List ℕ). text ++ l)
    (sym (flat_map-cons (told_text telling) e (take left (filter (is_from from) es)))))

-- An element whose number is below the requested number is skipped, and the complete encoding does
-- not change.
pub passed_one : (telling : Telling) (from left : ℕ) (text : List ℕ) (e : Element)
    (es : List Element) → is_from from e ≡ false
    → text ++ text_of telling from left es ≡ text ++ text_of telling from left (e ∷ es)
passed_one telling from left text e es is = rw is refl

-- If no more elements may be written, the next element is skipped, and the complete encoding does
-- not change.
pub none_left : (telling : Telling) (from left : ℕ) (text : List ℕ) (e : Element)
    (es : List Element) → left ≡ 0 → text ++ text_of telling from left es
    ≡ text ++ text_of telling from left (e ∷ es)
none_left telling from left text e es none = rw none refl

pub ruleset telling_one = (told_one, passed_one, none_left)

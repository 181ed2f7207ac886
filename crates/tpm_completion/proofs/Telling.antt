-- While a list is written, the bytes written so far, followed by the encodings of the remaining
-- elements, equal the whole encoding.
use Rattle.std.proofs.Common.{arith, ◌≡◌, ℕ, zero, suc, ◌-◌, ◌≢◌, true, false, List, ◌∷◌, ◌++◌, filter, take, refl, ap, sym, ◌∙◌}
use Rattle.std.proofs.lemmas.List.{append_assoc}
use Rattle.std.proofs.lemmas.List.Concat.{flat_map-cons}
use Rattle.tpm_actions_capability.specs.Element.{is_from}
use Rattle.tpm_completion.specs.Listing.{text_of, told_text}
use Rattle.tpm_actions_capability.specs.declared.element.Element.{Element}
use Rattle.tpm_completion.specs.declared.listing.Form.{Form}

-- after an element is written, the number of elements that may still be written is one less
pub told_one : (form : Form) (from left : ℕ) (text new : List ℕ) (e : Element) (es : List Element)
    → left ≢ 0 → is_from from e ≡ true → new ≡ text ++ told_text form e
    → new ++ text_of form from (left - 1) es ≡ text ++ text_of form from left (e ∷ es)
told_one form from zero text new e es some is told = absurd (some refl)
told_one form from (suc left) text new e es some is told =
    let one : suc left - 1 ≡ left = omega arith in
    rw (told, one, is) (append_assoc text (told_text form e) (text_of form from left es)
    ∙ ap (λ (l : List ℕ). text ++ l)
    (sym (flat_map-cons (told_text form) e (take left (filter (is_from from) es)))))

-- an element whose number is less than `from` is skipped
pub passed_one : (form : Form) (from left : ℕ) (text : List ℕ) (e : Element) (es : List Element)
    → is_from from e ≡ false → text ++ text_of form from left es
    ≡ text ++ text_of form from left (e ∷ es)
passed_one form from left text e es is = rw is refl

-- an element is skipped if no more elements may be written
pub none_left : (form : Form) (from left : ℕ) (text : List ℕ) (e : Element) (es : List Element)
    → left ≡ 0 → text ++ text_of form from left es ≡ text ++ text_of form from left (e ∷ es)
none_left form from left text e es none = rw none refl

pub ruleset telling_one = (told_one, passed_one, none_left)

-- Lemmas about separating the first line from the text after it.
use Rattle.std.proofs.Common.{◌≡◌, ℕ, ◌+◌, ◌-◌, ◌<◌, ◌==◌, List, [], ◌∷◌, ◌++◌, length, take, drop, None, Some, refl, sym, ap, ap₂, ◌∙◌, append-nil, arith}
use Rattle.std.specs.List.{position}
use Rattle.std.proofs.lemmas.Bool.{false≢true}
use Rattle.std.proofs.lemmas.Grind.{common_steps}
use Rattle.std.proofs.lemmas.List.Quantifiers.{position-Some}
use Rattle.tpmsim_script.specs.Line.{lines_of}
use Rattle.tpmsim_script.specs.Lines.{IsUnbroken}
use Rattle.tpmsim_script.proofs.LineBreaks.{found_last, found_line}

none_begun : IsUnbroken []
none_begun = λ k d l. absurd (omega (arith, l))

pub line_found : (text : List ℕ) (end : ℕ) → position (λ byte. byte == 10) text ≡ Some end
    → lines_of text ≡ take end text ∷ lines_of
    (take (length text - (end + 1)) (drop (end + 1) text))
line_found text end e =
    let found = position-Some (λ byte. byte == 10) text end 0 e in
    let whole : take (length text - (end + 1)) (drop (end + 1) text) ≡ drop (end + 1) text =
    grind (arith, common_steps) in
    ap lines_of (sym (append-nil text)) ∙ found_line [] text [] end none_begun e
    ∙ ap (λ (rest : List ℕ). take end text ∷ lines_of rest)
    (append-nil (drop (end + 1) text) ∙ sym whole)

pub line_is_last : (text : List ℕ) → position (λ byte. byte == 10) text ≡ None → 0 < length text
    → lines_of text ≡ text ∷ lines_of []
line_is_last text e some = ap lines_of (sym (append-nil text))
    ∙ found_last [] text [] none_begun e refl some

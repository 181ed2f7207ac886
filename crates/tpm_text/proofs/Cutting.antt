-- Lemmas about a text that is split at its first separator.
use Rattle.std.proofs.Common.{◌≡◌, ℕ, ◌+◌, ◌-◌, ◌<◌, ◌==◌, false, List, [], ◌∷◌, ◌++◌, length, take, drop, get_or, Some, None, refl, sym, ap, ◌∙◌, arith}
use Rattle.std.specs.List.{All, position}
use Rattle.std.proofs.lemmas.Bool.{eqb-true, eq-eqb}
use Rattle.std.proofs.lemmas.Grind.{common_steps}
use Rattle.std.proofs.lemmas.List.{drop_more, get_or-take, length-take-le, take-append-drop}
use Rattle.std.proofs.lemmas.List.Quantifiers.{position-Some}
use Rattle.std.proofs.lemmas.List.Splits.{slice_split_at, slice_split_none}
use Rattle.std.proofs.lemmas.List.Sums.{fails_before_first}
use Rattle.tpm_text.specs.Pieces.{pieces_of}

before_place : (separator : ℕ) (text : List ℕ) (place : ℕ)
    → position (λ byte. byte == separator) text ≡ Some place
    → All (λ byte. (byte == separator) ≡ false) (take place text)
before_place separator text place e = λ k d l. let found =
    position-Some (λ byte. byte == separator) text place d e in
    let short : k < place = omega (arith, length-take-le place text (omega (arith, found.0))) in
    ap (λ byte. byte == separator) (get_or-take place text k d short) ∙ found.2 k short

at_place : (separator : ℕ) (text : List ℕ) (place : ℕ)
    → position (λ byte. byte == separator) text ≡ Some place
    → text ≡ take place text ++ separator ∷ drop (place + 1) text
at_place separator text place e =
    let found = position-Some (λ byte. byte == separator) text place 0 e in
    let here : get_or text place 0 ≡ separator = eqb-true _ _ found.1 in
    sym (take-append-drop place text)
    ∙ ap (λ l. take place text ++ l) (drop_more text place 0 found.0)
    ∙ ap (λ byte. take place text ++ byte ∷ drop (place + 1) text) here

pub cut_found : (separator : ℕ) (text : List ℕ) (place : ℕ)
    → position (λ byte. byte == separator) text ≡ Some place
    → pieces_of separator text ≡ take place text
    ∷ pieces_of separator (take (length text - (place + 1)) (drop (place + 1) text))
cut_found separator text place e =
    let found = position-Some (λ byte. byte == separator) text place 0 e in
    let whole : take (length text - (place + 1)) (drop (place + 1) text) ≡ drop (place + 1) text =
    grind (arith, common_steps) in
    ap (pieces_of separator) (at_place separator text place e)
    ∙ slice_split_at (λ byte. byte == separator) (take place text) separator (drop (place + 1) text)
    (before_place separator text place e) (eq-eqb separator separator refl)
    ∙ ap (λ rest. take place text ∷ pieces_of separator rest) (sym whole)

pub cut_none : (separator : ℕ) (text : List ℕ) → position (λ byte. byte == separator) text ≡ None
    → pieces_of separator text ≡ text ∷ []
cut_none separator text e =
    slice_split_none (λ byte. byte == separator) text
    (λ k d l. fails_before_first (λ byte. byte == separator) text k d (grind (arith, common_steps)))

pub ruleset cuts = (cut_found, cut_none)

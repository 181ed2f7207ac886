-- Lemmas about the pieces of a token, which are read one after another.
use Rattle.std.proofs.Common.{◌≡◌, ℕ, List, [], ◌∷◌, Option, Result, Ok, Err, refl, sym, ap, ◌∙◌, append-nil}
use Rattle.std.specs.List.{flat_map, fold}
use Rattle.tpm_bytes.specs.Reading.{◌>>=◌}
use Rattle.tpm_types_common.specs.Pcr.{with_pcr}
use Rattle.tpm_text.specs.Draft.{Drafts, grown_draft}
use Rattle.tpm_number.specs.Number.{number_in}
use Rattle.tpm_text.specs.Parameter.{element_text, elements_text, pcrs_in}
use Rattle.tpm_text.specs.Pieces.{comma, each_in, pieces_of}
use Rattle.tpm_text.specs.declared.element.Element.{Element}
use Rattle.tpm_number.specs.declared.fault.TokenFault.{TokenFault}
use Rattle.tpm_bytes.proofs.Fields.{ok_is}
use Rattle.tpm_text.proofs.Growing.{grown-grown}

-- ---- PCRs

-- the PCRs selected so far, and the PCRs that the remaining pieces name
unfoldable pub pcrs_left : ℕ → List (List ℕ) → Result ℕ TokenFault
pcrs_left select pieces = each_in (number_in 23) pieces >>= λ pcrs. Ok (fold with_pcr select pcrs)

pub pcrs_begun : (numbers : List ℕ) → pcrs_left 0 (pieces_of comma numbers) ≡ pcrs_in numbers
unfolding pcrs_left pcrs_in
pcrs_begun numbers = refl

pub pcrs_more : (select pcr : ℕ) (piece : List ℕ) (pieces : List (List ℕ))
    → number_in 23 piece ≡ Ok pcr → pcrs_left select (piece ∷ pieces)
    ≡ pcrs_left (with_pcr select pcr) pieces
unfolding pcrs_left each_in
pcrs_more select pcr piece pieces e =
    ap (λ first. first
    >>= (λ first. each_in (number_in 23) pieces >>= λ others. Ok (first ∷ others))
    >>= λ pcrs. Ok (fold with_pcr select pcrs)) e ∙ by (each_in (number_in 23) pieces)
  where
    by : (others : Result (List ℕ) TokenFault)
        → (others >>= (λ others. Ok (pcr ∷ others)) >>= λ pcrs. Ok (fold with_pcr select pcrs))
        ≡ (others >>= λ pcrs. Ok (fold with_pcr (with_pcr select pcr) pcrs))
    by (Ok others) = refl
    by (Err fault) = refl

pub pcrs_done : (select : ℕ) → pcrs_left select [] ≡ Ok select
unfolding pcrs_left each_in
pcrs_done select = refl

pub pcrs_stopped : (select : ℕ) (fault : TokenFault) (piece : List ℕ) (pieces : List (List ℕ))
    → number_in 23 piece ≡ Err fault → pcrs_left select (piece ∷ pieces) ≡ Err fault
unfolding pcrs_left each_in
pcrs_stopped select fault piece pieces e =
    ap (λ first. first
    >>= (λ first. each_in (number_in 23) pieces >>= λ others. Ok (first ∷ others))
    >>= λ pcrs. Ok (fold with_pcr select pcrs)) e

-- ---- elements

-- a draft extended by the encodings of the remaining elements
unfoldable pub elements_left : Element → Option (List ℕ) → List (List ℕ)
    → Result (Option (List ℕ)) TokenFault
elements_left element draft pieces = elements_text element pieces
    >>= λ text. Ok (grown_draft draft text)

pub elements_more : (element : Element) (draft : Option (List ℕ)) (text piece : List ℕ)
    (pieces : List (List ℕ)) → element_text element piece ≡ Ok text
    → elements_left element draft (piece ∷ pieces)
    ≡ elements_left element (grown_draft draft text) pieces
unfolding elements_left elements_text each_in
elements_more element draft text piece pieces e =
    ap (λ first. first
    >>= (λ first. each_in (element_text element) pieces >>= λ others. Ok (first ∷ others))
    >>= (λ texts. Ok (flat_map (λ text. text) texts)) >>= λ text. Ok (grown_draft draft text)) e
    ∙ by (each_in (element_text element) pieces)
  where
    by : (others : Result (List (List ℕ)) TokenFault)
        → (others >>= (λ others. Ok (text ∷ others))
        >>= (λ texts. Ok (flat_map (λ text. text) texts)) >>= λ text. Ok (grown_draft draft text))
        ≡ (others >>= (λ texts. Ok (flat_map (λ text. text) texts))
        >>= λ rest. Ok (grown_draft (grown_draft draft text) rest))
    by (Ok others) = ap Ok (sym (grown-grown draft text (flat_map (λ text. text) others)))
    by (Err fault) = refl

pub elements_stopped : (element : Element) (draft : Option (List ℕ)) (fault : TokenFault)
    (piece : List ℕ) (pieces : List (List ℕ)) → element_text element piece ≡ Err fault
    → elements_left element draft (piece ∷ pieces) ≡ Err fault
unfolding elements_left elements_text each_in
elements_stopped element draft fault piece pieces e =
    ap (λ first. first
    >>= (λ first. each_in (element_text element) pieces >>= λ others. Ok (first ∷ others))
    >>= (λ texts. Ok (flat_map (λ text. text) texts)) >>= λ text. Ok (grown_draft draft text)) e

elements_last : (element : Element) (draft : Option (List ℕ)) (text piece : List ℕ)
    → element_text element piece ≡ Ok text → elements_left element draft (piece ∷ [])
    ≡ Ok (grown_draft draft text)
unfolding elements_left elements_text each_in
elements_last element draft text piece e =
    ap (λ first. first >>= (λ first. Ok (first ∷ []))
    >>= (λ texts. Ok (flat_map (λ text. text) texts)) >>= λ text. Ok (grown_draft draft text)) e
    ∙ ap (λ l. Ok (grown_draft draft l)) (append-nil text)

-- Writing the next element of a list does not change the result of writing the whole list.
pub put_more : (element : Element) (old new : Option (List ℕ)) (piece : List ℕ)
    (pieces : List (List ℕ)) (result : Result (Unit {0}) TokenFault) → result ≡ Ok tt
    → Drafts (element_text element piece) old result new
    → elements_left element old (piece ∷ pieces) ≡ elements_left element new pieces
put_more element old new piece pieces result e h = by (element_text element piece) refl result e h
  where
    by : (read : Result (List ℕ) TokenFault) → element_text element piece ≡ read
        → (result : Result (Unit {0}) TokenFault) → result ≡ Ok tt → Drafts read old result new
        → elements_left element old (piece ∷ pieces) ≡ elements_left element new pieces
    by (Ok text) is (Ok done) e h = elements_more element old text piece pieces is
        ∙ ap (λ d. elements_left element d pieces) (sym h)
    by (Ok text) is (Err found) e h = absurd h
    by (Err fault) is (Ok done) e h = absurd h
    by (Err fault) is (Err found) e h = absurd cc

-- After the last element of a list is written, the result is the new draft.
pub put_last : (element : Element) (old new : Option (List ℕ)) (piece : List ℕ)
    (result : Result (Unit {0}) TokenFault) → result ≡ Ok tt
    → Drafts (element_text element piece) old result new
    → elements_left element old (piece ∷ []) ≡ Ok new
put_last element old new piece result e h = by (element_text element piece) refl result e h
  where
    by : (read : Result (List ℕ) TokenFault) → element_text element piece ≡ read
        → (result : Result (Unit {0}) TokenFault) → result ≡ Ok tt → Drafts read old result new
        → elements_left element old (piece ∷ []) ≡ Ok new
    by (Ok text) is (Ok done) e h = elements_last element old text piece is ∙ ap Ok (sym h)
    by (Ok text) is (Err found) e h = absurd h
    by (Err fault) is (Ok done) e h = absurd h
    by (Err fault) is (Err found) e h = absurd cc

-- If the next element of a list has a fault, the result is this fault.
pub put_stopped : (element : Element) (old new : Option (List ℕ)) (piece : List ℕ)
    (pieces : List (List ℕ)) (result : Result (Unit {0}) TokenFault) (fault : TokenFault)
    → result ≡ Err fault → Drafts (element_text element piece) old result new
    → elements_left element old (piece ∷ pieces) ≡ Err fault
put_stopped element old new piece pieces result fault e h =
    by (element_text element piece) refl result e h
  where
    by : (read : Result (List ℕ) TokenFault) → element_text element piece ≡ read
        → (result : Result (Unit {0}) TokenFault) → result ≡ Err fault → Drafts read old result new
        → elements_left element old (piece ∷ pieces) ≡ Err fault
    by (Ok text) is (Ok done) e h = absurd cc
    by (Ok text) is (Err found) e h = absurd h
    by (Err other) is (Ok done) e h = absurd h
    by (Err other) is (Err found) e h = elements_stopped element old other piece pieces is
        ∙ ap Err (sym h ∙ cc)

-- The result of writing the remaining elements determines the result of writing the whole list.
pub elements_drafted : (element : Element) (old : Option (List ℕ)) (pieces : List (List ℕ))
    (result : Result (Unit {0}) TokenFault) (new : Option (List ℕ))
    → elements_left element old pieces ≡ (result >>= λ done. Ok new)
    → Drafts (elements_text element pieces) old result new
unfolding elements_left
elements_drafted element old pieces result new e = by (elements_text element pieces) result e
  where
    by : (read : Result (List ℕ) TokenFault) (result : Result (Unit {0}) TokenFault)
        → (read >>= λ text. Ok (grown_draft old text)) ≡ (result >>= λ done. Ok new)
        → Drafts read old result new
    by (Ok text) (Ok done) e = sym (ok_is (grown_draft old text) new e)
    by (Ok text) (Err fault) e = absurd cc
    by (Err fault) (Ok done) e = absurd cc
    by (Err fault) (Err found) e = cc

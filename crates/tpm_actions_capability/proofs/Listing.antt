-- Listing one more number or value adds one element to the list.
use Rattle.tpm_bytes.specs.Numbers.{numbers_below}
use Rattle.std.proofs.Common.{arith, ◌≡◌, ℕ, suc, ◌+◌, ◌<◌, List, [], ◌∷◌, ◌++◌, length, map, take, get_or, ap, sym, ◌∙◌, append-nil}
use Rattle.std.proofs.lemmas.Grind.{flat_map-append}
use Rattle.std.proofs.lemmas.List.{map-append, take_more}
use Rattle.std.specs.List.{flat_map}

below_more : (n : ℕ) → numbers_below (n + 1) ≡ numbers_below n ++ n ∷ []
below_more n = let next : n + 1 ≡ suc n = omega arith in ap numbers_below next

-- If a list contains the elements for all numbers below n, adding the element for n makes it the
-- list for all numbers below n + 1.
pub mapped_more : {X : Type 0} (f : ℕ → X) (n : ℕ) (so new : List X) → so ≡ map f (numbers_below n)
    → new ≡ so ++ f n ∷ [] → new ≡ map f (numbers_below (n + 1))
mapped_more f n so new is more = more ∙ ap (λ (l : List _). l ++ f n ∷ []) is
    ∙ sym (map-append f (numbers_below n) (n ∷ [])) ∙ sym (ap (map f) (below_more n))

pub flat_more : {X : Type 0} (f : ℕ → List X) (n : ℕ) (so new : List X)
    → so ≡ flat_map f (numbers_below n) → new ≡ so ++ f n → new ≡ flat_map f (numbers_below (n + 1))
flat_more f n so new is more = more ∙ ap (λ (l : List _). l ++ f n) is
    ∙ ap (λ (l : List _). flat_map f (numbers_below n) ++ l) (sym (one f n))
    ∙ sym (flat_map-append f (numbers_below n) (n ∷ [])) ∙ sym (ap (flat_map f) (below_more n))
  where
    one : {X : Type 0} (f : ℕ → List X) (n : ℕ) → flat_map f (n ∷ []) ≡ f n
    one f n = append-nil (f n)

-- If a list contains the elements for the first i values, adding the element for the next value
-- makes it the list for the first i + 1 values.
pub taken_more : {A X : Type 0} (f : A → X) (xs : List A) (i : ℕ) (d : A) (so new : List X)
    → i < length xs → so ≡ map f (take i xs) → new ≡ so ++ f (get_or xs i d) ∷ []
    → new ≡ map f (take (i + 1) xs)
taken_more f xs i d so new below is more =
    more ∙ ap (λ (l : List _). l ++ f (get_or xs i d) ∷ []) is
    ∙ sym (map-append f (take i xs) (get_or xs i d ∷ []))
    ∙ sym (ap (map f) (take_more xs i d below))

pub flat_taken_more : {A X : Type 0} (f : A → List X) (xs : List A) (i : ℕ) (d : A)
    (so new : List X) → i < length xs → so ≡ flat_map f (take i xs)
    → new ≡ so ++ f (get_or xs i d) → new ≡ flat_map f (take (i + 1) xs)
flat_taken_more f xs i d so new below is more =
    more ∙ ap (λ (l : List _). l ++ f (get_or xs i d)) is
    ∙ ap (λ (l : List _). flat_map f (take i xs) ++ l) (sym (append-nil (f (get_or xs i d))))
    ∙ sym (flat_map-append f (take i xs) (get_or xs i d ∷ []))
    ∙ sym (ap (flat_map f) (take_more xs i d below))

pub ruleset one_more = (mapped_more, flat_more, taken_more, flat_taken_more)

-- Writing a slot changes no other slot. The lowest free slot is free, and each slot below it is
-- taken. If there is no lowest free slot, all slots are taken.
use Rattle.std.proofs.Common.{◌≡◌, ◌≢◌, ℕ, zero, suc, ◌+◌, ◌<◌, true, false, ◌≤◌, ltb, List, [], ◌∷◌, length, Option, Some, None, slice_set, is_none, is_some, cond, refl, sym, ap, ◌∙◌, arith, inl, inr}
use Rattle.std.proofs.lemmas.List.Quantifiers.{position-Some}
use Rattle.std.proofs.lemmas.List.Sums.{sum_by-cons}
use Rattle.tpm_containers.specs.Slots.{at_place, lowest_free, padded_to, taken_count}
use Rattle.std.proofs.lemmas.Bool.{cases_lt, ltb-false}
use Rattle.tpm_containers.proofs.Padding.{at_behind, at_place-padded, at_place-read, first_free, not_found}

pub at_set-here : {X : Type 0} (places : List (Option X)) (place : ℕ) (cell : Option X)
    → place < length places → at_place (slice_set places place cell) place ≡ cell
at_set-here [] place cell below = absurd (omega arith)
at_set-here (first ∷ places) zero cell below = refl
at_set-here (first ∷ places) (suc place) cell below = at_set-here places place cell (omega arith)

pub at_set-other : {X : Type 0} (places : List (Option X)) (place other : ℕ) (cell : Option X)
    → other ≢ place → at_place (slice_set places place cell) other ≡ at_place places other
at_set-other [] place other cell apart = refl
at_set-other (first ∷ places) zero zero cell apart = absurd (apart refl)
at_set-other (first ∷ places) zero (suc other) cell apart = refl
at_set-other (first ∷ places) (suc place) zero cell apart = refl
at_set-other (first ∷ places) (suc place) (suc other) cell apart =
    at_set-other places place other cell (λ e. apart (ap (λ (n : ℕ). suc n) e))

pub at_inside : {X : Type 0} (places : List (Option X)) (place : ℕ) (x : X)
    → at_place places place ≡ Some x → place < length places
at_inside [] place x is = absurd cc
at_inside (first ∷ places) zero x is = omega arith
at_inside (first ∷ places) (suc place) x is = let more =
    at_inside places place x is in omega (arith, more)

-- ---- the lowest free slot

is_none_true : {X : Type 0} (cell : Option X) → is_none cell ≡ true → cell ≡ None
is_none_true None e = refl
is_none_true (Some x) e = absurd cc

-- the lowest free slot is one of the slots, and is free
pub lowest_free-free : {X : Type 0} (places : List (Option X)) (place : ℕ)
    → lowest_free places ≡ Some place → (place < length places) × (at_place places place ≡ None)
lowest_free-free places place is =
    let p = position-Some is_none places place None is in
    (p.0, at_place-read places place None None p.0 (is_none_true _ p.1))

is_none_false : {X : Type 0} (cell : Option X) → is_none cell ≡ false → cell ≢ None
is_none_false None e same = absurd cc
is_none_false (Some x) e same = absurd cc

-- each slot below the lowest free slot is taken
pub lowest_free-lowest : {X : Type 0} (places : List (Option X)) (place below : ℕ)
    → lowest_free places ≡ Some place → below < place → at_place places below ≢ None
lowest_free-lowest places place below is lower =
    let p = position-Some is_none places place None is in
    let inside : below < length places = omega (arith, p.0, lower) in
    let taken = is_none_false _ (p.2 below lower) in
    λ free. taken (sym (at_place-read places below _ None inside refl) ∙ free)

taken_up : {X : Type 0} (places : List (Option X)) (place : ℕ) → length places ≤ first_free places
    → place < length places → at_place places place ≢ None
taken_up [] place none below = absurd (omega arith)
taken_up (None ∷ places) place none below = absurd (omega arith)
taken_up (Some x ∷ places) zero none below = λ e. absurd cc
taken_up (Some x ∷ places) (suc place) none below =
    taken_up places place (omega arith) (omega arith)

-- if there is no free slot, all slots are taken
pub all_taken : {X : Type 0} (places : List (Option X)) (place : ℕ) → lowest_free places ≡ None
    → place < length places → at_place places place ≢ None
all_taken places place is below =
    taken_up places place
    (ltb-false _ _ (not_found (ltb (first_free places) (length places)) (first_free places) is))
    below

-- ---- the lowest free slot in a list that grows

-- the lowest free slot is a cell of the list, or the first slot past the end of the list
pub free_within : {X : Type 0} (most : ℕ) (cells : List (Option X)) (place : ℕ)
    → lowest_free (padded_to most cells) ≡ Some place → place ≤ length cells
free_within most cells place is =
    elim (cases_lt (length cells) place) [
      | inl beyond ↦ absurd
          (lowest_free-lowest (padded_to most cells) place (length cells) is beyond
          (at_place-padded most cells (length cells)
          ∙ at_behind cells (length cells) (omega arith)))
      | inr within ↦ within
    ]

-- ---- the number of taken slots

-- the count for one slot: 1 if it is taken, and 0 otherwise
abbrev pub counted : {X : Type 0} → Option X → ℕ
counted cell = cond (is_some cell) 1 0

taken-cons : {X : Type 0} (first : Option X) (places : List (Option X))
    → taken_count (first ∷ places) ≡ counted first + taken_count places
taken-cons first places = sum_by-cons counted first places

-- overwriting a slot subtracts the count of its old content from the number of taken slots, and
-- adds the count of its new content
pub taken_set : {X : Type 0} (places : List (Option X)) (place : ℕ) (cell : Option X)
    → place < length places → taken_count (slice_set places place cell)
    + counted (at_place places place) ≡ taken_count places + counted cell
taken_set [] place cell below = absurd (omega arith)
taken_set (first ∷ places) zero cell below =
    let new = taken-cons cell places in
    let old = taken-cons first places in
    omega (arith, new, old)
taken_set (first ∷ places) (suc place) cell below =
    let new = taken-cons first (slice_set places place cell) in
    let old = taken-cons first places in
    let more = taken_set places place cell (omega arith) in
    omega (arith, new, old, more)

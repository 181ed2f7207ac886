-- If slots are stored in a growing list, the slots past the end of the list are free.
use Rattle.std.proofs.Common.{◌≡◌, ℕ, zero, suc, ◌+◌, ◌-◌, ◌<◌, ◌≤◌, Bool, true, false, cond, ltb, List, [], ◌∷◌, ◌++◌, length, get_or, Option, Some, None, slice_set, is_none, refl, sym, ap, ◌∙◌, arith}
use Rattle.std.specs.List.{position, position_or_len}
use Rattle.std.proofs.lemmas.Bool.{lt-ltb, ltb-false, ltb-true}
use Rattle.std.proofs.lemmas.List.{length-append, length-replicate}
use Rattle.tpm_containers.specs.Slots.{at_place, free, lowest_free, padded_to}

abbrev Cells : Type 0 → Type 0
Cells X = List (Option X)

-- ---- the value in a slot

at_free : {X : Type 0} (n place : ℕ) → at_place (free {X = X} n) place ≡ None
at_free zero place = refl
at_free (suc n) zero = refl
at_free (suc n) (suc place) = at_free n place

at_padded : {X : Type 0} (cells : Cells X) (n place : ℕ)
    → at_place (cells ++ free n) place ≡ at_place cells place
at_padded [] n place = at_free n place
at_padded (cell ∷ cells) n zero = refl
at_padded (cell ∷ cells) n (suc place) = at_padded cells n place

pub at_place-padded : {X : Type 0} (most : ℕ) (cells : Cells X) (place : ℕ)
    → at_place (padded_to most cells) place ≡ at_place cells place
at_place-padded most cells place = at_padded cells _ place

-- ---- replacing or removing the value in a slot

set_padded : {X : Type 0} (cells : Cells X) (n place : ℕ) (cell : Option X) → place < length cells
    → slice_set (cells ++ free n) place cell ≡ slice_set cells place cell ++ free n
set_padded [] n place cell below = absurd (omega arith)
set_padded (first ∷ cells) n zero cell below = refl
set_padded (first ∷ cells) n (suc place) cell below =
    ap (λ (l : Cells _). first ∷ l) (set_padded cells n place cell (omega arith))

length-set_cell : {X : Type 0} (cells : Cells X) (place : ℕ) (cell : Option X)
    → length (slice_set cells place cell) ≡ length cells
length-set_cell [] place cell = refl
length-set_cell (first ∷ cells) zero cell = refl
length-set_cell (first ∷ cells) (suc place) cell =
    ap (λ (n : ℕ). suc n) (length-set_cell cells place cell)

pub padded-set : {X : Type 0} (most : ℕ) (cells : Cells X) (place : ℕ) (cell : Option X)
    → place < length cells → padded_to most (slice_set cells place cell)
    ≡ slice_set (padded_to most cells) place cell
padded-set most cells place cell below =
    ap (λ (n : ℕ). slice_set cells place cell ++ free (most - n)) (length-set_cell cells place cell)
    ∙ sym (set_padded cells _ place cell below)

clear_free : {X : Type 0} (n place : ℕ) → slice_set (free {X = X} n) place None ≡ free n
clear_free zero place = refl
clear_free (suc n) zero = refl
clear_free (suc n) (suc place) = ap (λ (l : Cells _). None ∷ l) (clear_free n place)

clear_padded : {X : Type 0} (cells : Cells X) (n place : ℕ) → length cells ≤ place
    → slice_set (cells ++ free n) place None ≡ cells ++ free n
clear_padded [] n place behind = clear_free n place
clear_padded (first ∷ cells) n zero behind = absurd (omega arith)
clear_padded (first ∷ cells) n (suc place) behind =
    ap (λ (l : Cells _). first ∷ l) (clear_padded cells n place (omega arith))

-- freeing a slot past the end of the list changes nothing
pub padded-clear : {X : Type 0} (most : ℕ) (cells : Cells X) (place : ℕ) → length cells ≤ place
    → slice_set (padded_to most cells) place None ≡ padded_to most cells
padded-clear most cells place behind = clear_padded cells _ place behind

-- a slot past the end of the list is free
pub at_behind : {X : Type 0} (cells : Cells X) (place : ℕ) → length cells ≤ place
    → at_place cells place ≡ None
at_behind [] place behind = refl
at_behind (first ∷ cells) zero behind = absurd (omega arith)
at_behind (first ∷ cells) (suc place) behind = at_behind cells place (omega arith)

-- ---- the lowest free slot of a list

abbrev pub first_free : {X : Type 0} → Cells X → ℕ
first_free cells = position_or_len is_none cells

found : {X : Type 0} (b : Bool) (x y : X) → cond b (Some x) None ≡ Some y → (b ≡ true) × (x ≡ y)
found true x y e = (refl, cc)
found false x y e = absurd cc

pub not_found : {X : Type 0} (b : Bool) (x : X) → cond b (Some x) None ≡ None → b ≡ false
not_found true x e = absurd cc
not_found false x e = refl

first_free-left : {X : Type 0} (cells more : Cells X) → first_free cells < length cells
    → first_free (cells ++ more) ≡ first_free cells
first_free-left [] more below = absurd (omega arith)
first_free-left (None ∷ cells) more below = refl
first_free-left (Some s ∷ cells) more below =
    ap (λ (n : ℕ). 1 + n) (first_free-left cells more (omega arith))

first_free-right : {X : Type 0} (cells : Cells X) (n : ℕ) → length cells ≤ first_free cells
    → first_free (cells ++ free n) ≡ length cells
first_free-right [] zero none = refl
first_free-right [] (suc n) none = refl
first_free-right (None ∷ cells) n none = absurd (omega arith)
first_free-right (Some s ∷ cells) n none = let more =
    first_free-right cells n (omega arith) in omega (arith, more)

-- the first free cell of the list, if there is one, is the lowest free slot
pub free_among : {X : Type 0} (most : ℕ) (cells : Cells X) (place : ℕ)
    → position is_none cells ≡ Some place → lowest_free (padded_to most cells) ≡ Some place
free_among most cells place is =
    let here = found (ltb (first_free cells) (length cells)) (first_free cells) place is in
    let below : first_free cells < length cells = ltb-true _ _ here.0 in
    let same = first_free-left cells (free (most - length cells)) below in
    let inside : ltb (first_free cells) (length (padded_to most cells)) ≡ true =
    lt-ltb _ _ (omega (arith, below, length-append cells (free (most - length cells)))) in
    rw (same, inside) (ap (λ (n : ℕ). Some n) here.1)

length-padded : {X : Type 0} (most : ℕ) (cells : Cells X) → length cells ≤ most
    → length (padded_to most cells) ≡ most
length-padded most cells few = rw (length-append, length-replicate) (omega arith)

-- if no cell of the list is free, the lowest free slot is the first slot past the list's end
pub free_behind : {X : Type 0} (most : ℕ) (cells : Cells X) → length cells < most
    → position is_none cells ≡ None → lowest_free (padded_to most cells) ≡ Some (length cells)
free_behind most cells few is =
    let none : length cells ≤ first_free cells =
    ltb-false _ _ (not_found (ltb (first_free cells) (length cells)) (first_free cells) is) in
    let same = first_free-right cells (most - length cells) none in
    let inside : ltb (length cells) (length (padded_to most cells)) ≡ true =
    lt-ltb _ _ (omega (arith, few, length-padded most cells (omega arith))) in
    rw (same, inside) refl

-- ---- a list with one more cell

set_first_free : {X : Type 0} (cells : Cells X) (n : ℕ) (cell : Option X)
    → slice_set (cells ++ free (suc n)) (length cells) cell ≡ (cells ++ cell ∷ []) ++ free n
set_first_free [] n cell = refl
set_first_free (first ∷ cells) n cell =
    ap (λ (l : Cells _). first ∷ l) (set_first_free cells n cell)

pub padded-push : {X : Type 0} (most : ℕ) (cells : Cells X) (cell : Option X) → length cells < most
    → padded_to most (cells ++ cell ∷ []) ≡ slice_set (padded_to most cells) (length cells) cell
padded-push most cells cell few =
    let left : most - length (cells ++ cell ∷ []) ≡ most - suc (length cells) =
    omega (arith, length-append cells (cell ∷ [])) in
    let before : most - length cells ≡ suc (most - suc (length cells)) = omega arith in
    ap (λ (n : ℕ). (cells ++ cell ∷ []) ++ free n) left
    ∙ sym (set_first_free cells (most - suc (length cells)) cell)
    ∙ ap (λ (n : ℕ). slice_set (cells ++ free n) (length cells) cell) (sym before)

-- Adding a free cell to a list changes no slot.
pub padded-grown : {X : Type 0} (most : ℕ) (cells : Cells X) → length cells < most
    → padded_to most (cells ++ None ∷ []) ≡ padded_to most cells
padded-grown most cells few = padded-push most cells None few
    ∙ padded-clear most cells (length cells) (omega arith)

-- ---- reading cells and writing them back

-- Reading a cell of the list yields the content of its slot.
pub at_place-read : {X : Type 0} (cells : Cells X) (place : ℕ) (cell d : Option X)
    → place < length cells → get_or cells place d ≡ cell → at_place cells place ≡ cell
at_place-read [] place cell d below is = absurd (omega arith)
at_place-read (first ∷ cells) zero cell d below is = is
at_place-read (first ∷ cells) (suc place) cell d below is =
    at_place-read cells place cell d (omega arith) is

-- writing back the content of a slot changes nothing
pub set_same : {X : Type 0} (cells : Cells X) (place : ℕ) (cell : Option X)
    → get_or cells place cell ≡ cell → slice_set cells place cell ≡ cells
set_same [] place cell is = refl
set_same (first ∷ cells) zero cell is = ap (λ (c : Option _). c ∷ cells) (sym is)
set_same (first ∷ cells) (suc place) cell is =
    ap (λ (l : Cells _). first ∷ l) (set_same cells place cell is)

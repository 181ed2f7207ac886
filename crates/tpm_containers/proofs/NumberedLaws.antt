-- Slots form a map keyed by number. These lemmas say which values are found after a value was
-- inserted, removed or changed.
use Rattle.std.proofs.Common.{◌≡◌, ◌≢◌, ℕ, ◌+◌, ◌<◌, ◌≤◌, ◌^◌, Bool, true, false, cond, eqb, List, length, Option, Some, None, slice_set, refl, sym, ap, subst, ◌∙◌, arith, inl, inr}
use Rattle.std.specs.Prelude.{option_and_then}
use Rattle.std.proofs.lemmas.Bool.{cases_eq, eqb-true, eq-eqb, ne_eqb}
use Rattle.tpm_containers.specs.Slots.{at_place, lowest_free, taken_count}
use Rattle.tpm_containers.specs.Numbered.{MapLaws, at_number, changed_at, if_of_kind, kind_of, number_of, place_of, without_number}
use Rattle.tpm_containers.proofs.SlotLaws.{all_taken, at_inside, at_set-here, at_set-other, counted, lowest_free-free, lowest_free-lowest, taken_set}

module _ {X : Type 0} (kind : X → ℕ) where
  abbrev Slots : Type 0
  Slots = List (Option X)

  -- ---- numbers

  -- the value that a search by number finds in a slot with this content, or None if the slot is
  -- free or the value is of another kind
  abbrev seen : ℕ → Option X → Option X
  seen number cell = option_and_then (if_of_kind kind number) cell

  seen_fits : (number : ℕ) (x : X) → kind_of number ≡ kind x → seen number (Some x) ≡ Some x
  seen_fits number x is = rw (eq-eqb _ _ is) refl

  seen_apart : (number : ℕ) (x : X) → kind_of number ≢ kind x → seen number (Some x) ≡ None
  seen_apart number x apart = rw (ne_eqb _ _ apart) refl

  found : (b : Bool) (x y : X) → cond b (Some x) None ≡ Some y → (b ≡ true) × (x ≡ y)
  found true x y e = (refl, cc)
  found false x y e = absurd cc

  seen_some : (number : ℕ) (cell : Option X) (x : X) → seen number cell ≡ Some x
      → (cell ≡ Some x) × (kind_of number ≡ kind x)
  seen_some number None x e = absurd cc
  seen_some number (Some y) x e =
      let f = found (eqb (kind_of number) (kind y)) y x e in (
        ap (λ (z : X). Some z) f.1,
        subst (λ (z : X). kind_of number ≡ kind z) f.1 (eqb-true _ _ f.0),
      )

  one_number : (a b : ℕ) → place_of a ≡ place_of b → kind_of a ≡ kind_of b → a ≡ b
  one_number a b place byte = omega arith

  place_of-number_of : (k place : ℕ) → place < 2 ^ 24 → place_of (number_of k place) ≡ place
  place_of-number_of k place below = omega arith

  kind_of-number_of : (k place : ℕ) → place < 2 ^ 24 → kind_of (number_of k place) ≡ k
  kind_of-number_of k place below = omega arith

  -- If a slot is written, a search for a number finds the same value as before in two cases: the
  -- number identifies another slot, or the search finds the same in the slot's old and new content.
  elsewhere : (places : Slots) (place other : ℕ) (cell : Option X)
      → (place_of other ≡ place → seen other cell ≡ seen other (at_place places place))
      → place < length places → at_number kind (slice_set places place cell) other
      ≡ at_number kind places other
  unfolding at_number
  elsewhere places place other cell same inside =
      elim (cases_eq (place_of other) place) [
        | inl here ↦
            let at = at_set-here places place cell inside in
            ap (λ (n : ℕ). seen other (at_place (slice_set places place cell) n)) here
            ∙ ap (seen other) at ∙ same here
            ∙ ap (λ (n : ℕ). seen other (at_place places n)) (sym here)
        | inr apart ↦ ap (seen other) (at_set-other places place (place_of other) cell apart)
      ]

  -- ---- the value in a slot

  pub taken : (places : Slots) (place : ℕ) (x : X) → place < 2 ^ 24 → at_place places place ≡ Some x
      → at_number kind places (number_of (kind x) place) ≡ Some x
  unfolding at_number
  taken places place x below is =
      ap (λ (n : ℕ). seen (number_of (kind x) place) (at_place places n))
      (place_of-number_of (kind x) place below)
      ∙ ap (seen (number_of (kind x) place)) is
      ∙ seen_fits (number_of (kind x) place) x (kind_of-number_of (kind x) place below)

  pub free : (places : Slots) (k place : ℕ) → place < 2 ^ 24 → lowest_free places ≡ Some place
      → at_number kind places (number_of k place) ≡ None
  unfolding at_number
  free places k place below is =
      ap (λ (n : ℕ). seen (number_of k place) (at_place places n))
      (place_of-number_of k place below)
      ∙ ap (seen (number_of k place)) (lowest_free-free places place is).1

  -- ---- putting a value into a slot

  pub put_found : (places : Slots) (place : ℕ) (x : X) → place < 2 ^ 24
      → lowest_free places ≡ Some place
      → at_number kind (slice_set places place (Some x)) (number_of (kind x) place) ≡ Some x
  put_found places place x below is =
      taken (slice_set places place (Some x)) place x below
      (at_set-here places place (Some x) (lowest_free-free places place is).0)

  pub put_others : (places : Slots) (place : ℕ) (x : X) (other : ℕ) → place < 2 ^ 24
      → lowest_free places ≡ Some place → other ≢ number_of (kind x) place
      → at_number kind (slice_set places place (Some x)) other ≡ at_number kind places other
  put_others places place x other below is apart =
      let free = lowest_free-free places place is in
      elsewhere places place other (Some x)
      (λ here. seen_apart other x
      (λ byte. apart
      (one_number other (number_of (kind x) place)
      (here ∙ sym (place_of-number_of (kind x) place below))
      (byte ∙ sym (kind_of-number_of (kind x) place below))))
      ∙ ap (seen other) (sym free.1))
      free.0

  -- ---- a slot that is overwritten

  abbrev Found : Slots → ℕ → X → Type 0
  Found places number x = (at_place places (place_of number) ≡ Some x) × (kind_of number ≡ kind x)

  found_at : (places : Slots) (number : ℕ) (x : X) → at_number kind places number ≡ Some x
      → Found places number x
  unfolding at_number
  found_at places number x is = seen_some number (at_place places (place_of number)) x is

  -- If two different numbers identify the same slot, their most significant bytes differ.
  -- Therefore, if a search for one of them finds a value, a search for the other finds nothing,
  -- even after a value of the same kind replaces this value.
  hidden : (places : Slots) (number other : ℕ) (x y : X) → Found places number x → kind y ≡ kind x
      → other ≢ number → place_of other ≡ place_of number → seen other (Some y) ≡ None
  hidden places number other x y is same apart here =
      seen_apart other y (λ byte. apart (one_number other number here (byte ∙ same ∙ sym is.1)))

  others_stay : (places : Slots) (number other : ℕ) (x : X) (cell : Option X)
      → at_number kind places number ≡ Some x → other ≢ number
      → (place_of other ≡ place_of number → seen other cell ≡ None)
      → at_number kind (slice_set places (place_of number) cell) other ≡ at_number kind places other
  others_stay places number other x cell is apart none =
      let f = found_at places number x is in
      elsewhere places (place_of number) other cell
      (λ here. none here
      ∙ sym (ap (seen other) f.0 ∙ hidden places number other x x f refl apart here))
      (at_inside places (place_of number) x f.0)

  -- ---- removing a value

  removed_some : (places : Slots) (number : ℕ) (x : X) → at_number kind places number ≡ Some x
      → without_number kind places number ≡ slice_set places (place_of number) None
  unfolding without_number
  removed_some places number x is = rw is refl

  pub removed_absent : (places : Slots) (number : ℕ) → at_number kind places number ≡ None
      → without_number kind places number ≡ places
  unfolding without_number
  removed_absent places number is = rw is refl

  cleared : (places : Slots) (number : ℕ) (x : X) → at_number kind places number ≡ Some x
      → at_number kind (slice_set places (place_of number) None) number ≡ None
  unfolding at_number
  cleared places number x is =
      let f = seen_some number (at_place places (place_of number)) x is in
      ap (seen number)
      (at_set-here places (place_of number) None (at_inside places (place_of number) x f.0))

  pub removed_gone : (places : Slots) (number : ℕ)
      → at_number kind (without_number kind places number) number ≡ None
  removed_gone places number = by (at_number kind places number) refl
    where
      by : (o : Option X) → at_number kind places number ≡ o
          → at_number kind (without_number kind places number) number ≡ None
      by (Some x) is = ap (λ (p : Slots). at_number kind p number) (removed_some places number x is)
          ∙ cleared places number x is
      by None is = ap (λ (p : Slots). at_number kind p number) (removed_absent places number is)
          ∙ is

  pub removed_others : (places : Slots) (number other : ℕ) → other ≢ number
      → at_number kind (without_number kind places number) other ≡ at_number kind places other
  removed_others places number other apart = by (at_number kind places number) refl
    where
      by : (o : Option X) → at_number kind places number ≡ o
          → at_number kind (without_number kind places number) other ≡ at_number kind places other
      by (Some x) is = ap (λ (p : Slots). at_number kind p other) (removed_some places number x is)
          ∙ others_stay places number other x None is apart (λ here. refl)
      by None is = ap (λ (p : Slots). at_number kind p other) (removed_absent places number is)

  -- ---- changing a value without changing its kind

  abbrev Keeps : (X → X) → Type 0
  Keeps change = (x : X) → kind (change x) ≡ kind x

  changed_some : (change : X → X) (places : Slots) (number : ℕ) (x : X)
      → at_number kind places number ≡ Some x
      → changed_at kind change places number ≡ slice_set places (place_of number) (Some (change x))
  changed_some change places number x is = rw is refl

  pub changed_absent : (change : X → X) (places : Slots) (number : ℕ)
      → at_number kind places number ≡ None → changed_at kind change places number ≡ places
  changed_absent change places number is = rw is refl

  changed_here : (change : X → X) → Keeps change → (places : Slots) (number : ℕ) (x : X)
      → at_number kind places number ≡ Some x
      → at_number kind (slice_set places (place_of number) (Some (change x))) number
      ≡ Some (change x)
  unfolding at_number
  changed_here change keeps places number x is =
      let f = seen_some number (at_place places (place_of number)) x is in
      ap (seen number)
      (at_set-here places (place_of number) (Some (change x))
      (at_inside places (place_of number) x f.0))
      ∙ seen_fits number (change x) (f.1 ∙ sym (keeps x))

  pub changed_found : (change : X → X) → Keeps change → (places : Slots) (number : ℕ) (x : X)
      → at_number kind places number ≡ Some x
      → at_number kind (changed_at kind change places number) number ≡ Some (change x)
  changed_found change keeps places number x is =
      ap (λ (p : Slots). at_number kind p number) (changed_some change places number x is)
      ∙ changed_here change keeps places number x is

  pub changed_others : (change : X → X) → Keeps change → (places : Slots) (number other : ℕ)
      → other ≢ number → at_number kind (changed_at kind change places number) other
      ≡ at_number kind places other
  changed_others change keeps places number other apart = by (at_number kind places number) refl
    where
      by : (o : Option X) → at_number kind places number ≡ o
          → at_number kind (changed_at kind change places number) other
          ≡ at_number kind places other
      by (Some x) is = ap (λ (p : Slots). at_number kind p other)
          (changed_some change places number x is)
          ∙ others_stay places number other x (Some (change x)) is apart
          (λ here. hidden places number other x (change x) (found_at places number x is) (keeps x)
          apart here)
      by None is = ap (λ (p : Slots). at_number kind p other)
          (changed_absent change places number is)

  -- ---- the number of taken slots

  pub put_taken : (places : Slots) (place : ℕ) (x : X) → lowest_free places ≡ Some place
      → taken_count (slice_set places place (Some x)) ≡ taken_count places + 1
  put_taken places place x is =
      let free = lowest_free-free places place is in
      let none : counted (at_place places place) ≡ 0 = ap counted free.1 in
      let set = taken_set places place (Some x) free.0 in
      omega (arith, set, none)

  -- If a search for a number finds a value, the slot of this value counts as one taken slot.
  one_taken : (places : Slots) (number : ℕ) (x : X) → at_number kind places number ≡ Some x
      → counted (at_place places (place_of number)) ≡ 1
  one_taken places number x is = ap counted (found_at places number x is).0

  -- If a search finds a value, overwriting its slot with another value does not change the number
  -- of taken slots. Freeing the slot decreases the number by one.
  taken_there : (places : Slots) (number : ℕ) (x : X) (cell : Option X)
      → at_number kind places number ≡ Some x
      → taken_count (slice_set places (place_of number) cell) + 1
      ≡ taken_count places + counted cell
  taken_there places number x cell is =
      let set = taken_set places (place_of number) cell
      (at_inside places (place_of number) x (found_at places number x is).0) in
      let one = one_taken places number x is in
      omega (arith, set, one)

  pub removed_one : (places : Slots) (number : ℕ) (x : X) → at_number kind places number ≡ Some x
      → taken_count (without_number kind places number) + 1 ≡ taken_count places
  removed_one places number x is =
      let there = taken_there places number x None is in
      rw (removed_some places number x is) (omega (arith, there))

  -- A removal never increases the number of taken slots, even if there was no value to remove.
  pub removed_taken : (places : Slots) (number : ℕ)
      → taken_count (without_number kind places number) ≤ taken_count places
  removed_taken places number = by (at_number kind places number) refl
    where
      by : (o : Option X) → at_number kind places number ≡ o
          → taken_count (without_number kind places number) ≤ taken_count places
      by (Some x) is = let one = removed_one places number x is in omega (arith, one)
      by None is = rw (removed_absent places number is) (omega arith)

  pub changed_taken : (change : X → X) (places : Slots) (number : ℕ)
      → taken_count (changed_at kind change places number) ≡ taken_count places
  changed_taken change places number = by (at_number kind places number) refl
    where
      by : (o : Option X) → at_number kind places number ≡ o
          → taken_count (changed_at kind change places number) ≡ taken_count places
      by (Some x) is = let there =
          taken_there places number x (Some (change x)) is in ap (λ (p : Slots). taken_count p)
          (changed_some change places number x is) ∙ omega (arith, there)
      by None is = ap (λ (p : Slots). taken_count p) (changed_absent change places number is)

  pub is_map : MapLaws kind
  is_map = record {
    put_found = put_found;
    put_others = put_others;
    free = free;
    lowest = lowest_free-lowest;
    full = all_taken;
    taken = taken;
    removed_gone = removed_gone;
    removed_others = removed_others;
    removed_absent = removed_absent;
    changed_found = changed_found;
    changed_others = changed_others;
    put_taken = put_taken;
    removed_one = removed_one;
    changed_taken = changed_taken;
  }

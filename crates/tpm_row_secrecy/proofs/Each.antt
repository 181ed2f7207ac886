-- If a function is applied to all values of a map, or to the values in all slots, a lookup then
-- returns the function's result for the old value.
use Rattle.std.proofs.Common.{ap, eqb, leb, refl, sym, ◌∙◌}
use Rattle.std.specs.List.{prefix_len}
use Rattle.std.specs.Option.{option_map_or}
use Rattle.std.specs.Prelude.{Bool, List, None, Option, Some, [], cond, false, is_none, is_some, length, map, nat_lt, not, option_and_then, option_map, slice_set, suc, true, zero, ℕ, ◌+◌, ◌∷◌, ◌≡◌}
use Rattle.tpm_containers.specs.Numbered.{at_number, changed_at, if_of_kind, kind_of, place_of, without_number}
use Rattle.tpm_containers.specs.Slots.{at_place, free, lowest_free}
use Rattle.tpm_containers.specs.SortedMap.{Entries, at_key, changed_key, kept_entries, with_key, without_key}

pub chosen : {A B : Type 0} (g : A → B) (b : Bool) (x y : A) → cond b (g x) (g y) ≡ g (cond b x y)
chosen g true x y = refl
chosen g false x y = refl

-- ---- maps

module _ {X Y : Type 0} (f : X → Y) where
  abbrev pub each : Entries X → Entries Y
  each es = map (λ e. (e.0, f e.1)) es

  pub at_each : (es : Entries X) (key : ℕ) → at_key (each es) key ≡ option_map f (at_key es key)
  at_each [] key = refl
  at_each (e ∷ es) key =
      ap (cond (eqb e.0 key) (Some (f e.1))) (at_each es key)
      ∙ chosen (option_map f) (eqb e.0 key) (Some e.1) (at_key es key)

  pub with_each : (es : Entries X) (key : ℕ) (x : X)
      → with_key (each es) key (f x) ≡ each (with_key es key x)
  with_each [] key x = refl
  with_each (e ∷ es) key x =
      ap (λ (others : Entries Y). cond (leb key e.0) ((key, f x) ∷ each (e ∷ es))
      ((e.0, f e.1) ∷ others)) (with_each es key x)
      ∙ chosen each (leb key e.0) ((key, x) ∷ e ∷ es) (e ∷ with_key es key x)

  pub changed_each : (es : Entries X) (key : ℕ) (x : X)
      → changed_key (each es) key (f x) ≡ each (changed_key es key x)
  changed_each [] key x = refl
  changed_each (e ∷ es) key x =
      ap (λ (others : Entries Y). cond (eqb e.0 key) ((e.0, f x) ∷ each es) ((e.0, f e.1) ∷ others))
      (changed_each es key x)
      ∙ chosen each (eqb e.0 key) ((e.0, x) ∷ es) (e ∷ changed_key es key x)

  pub without_each : (es : Entries X) (key : ℕ)
      → without_key (each es) key ≡ each (without_key es key)
  without_each [] key = refl
  without_each (e ∷ es) key =
      ap (λ (others : Entries Y). cond (eqb e.0 key) (each es) ((e.0, f e.1) ∷ others))
      (without_each es key)
      ∙ chosen each (eqb e.0 key) es (e ∷ without_key es key)

  pub kept_each : (stays : Y → Bool) (was : X → Bool) → ((x : X) → stays (f x) ≡ was x)
      → (es : Entries X) → kept_entries stays (each es) ≡ each (kept_entries was es)
  kept_each stays was same [] = refl
  kept_each stays was same (e ∷ es) =
      ap (λ (b : Bool). cond b ((e.0, f e.1) ∷ kept_entries stays (each es))
      (kept_entries stays (each es))) (same e.1)
      ∙ ap (λ (others : Entries Y). cond (was e.1) ((e.0, f e.1) ∷ others) others)
      (kept_each stays was same es)
      ∙ chosen each (was e.1) (e ∷ kept_entries was es) (kept_entries was es)

  pub length_each : (es : Entries X) → length (each es) ≡ length es
  length_each [] = refl
  length_each (e ∷ es) = ap (λ (n : ℕ). suc n) (length_each es)

pub each_twice : {X Y Z : Type 0} (g : Y → Z) (f : X → Y) (h : X → Z) → ((x : X) → g (f x) ≡ h x)
    → (es : Entries X) → each g (each f es) ≡ each h es
each_twice g f h same [] = refl
each_twice {Z = Z} g f h same (e ∷ es) =
    ap (λ (z : Z). (e.0, z) ∷ each g (each f es)) (same e.1)
    ∙ ap (λ (others : Entries Z). (e.0, h e.1) ∷ others) (each_twice g f h same es)

-- ---- slots

module _ {X Y : Type 0} (f : X → Y) where
  abbrev pub places : List (Option X) → List (Option Y)
  places xs = map (option_map f) xs

  pub is_some_of : (found : Option X) → is_some (option_map f found) ≡ is_some found
  is_some_of None = refl
  is_some_of (Some x) = refl

  pub place_of_each : (xs : List (Option X)) (n : ℕ)
      → at_place (places xs) n ≡ option_map f (at_place xs n)
  place_of_each [] n = refl
  place_of_each (None ∷ xs) zero = refl
  place_of_each (Some x ∷ xs) zero = refl
  place_of_each (x ∷ xs) (suc n) = place_of_each xs n

  pub set_each : (xs : List (Option X)) (n : ℕ) (x : Option X)
      → slice_set (places xs) n (option_map f x) ≡ places (slice_set xs n x)
  set_each [] n x = refl
  set_each (y ∷ ys) zero x = refl
  set_each (y ∷ ys) (suc n) x =
      ap (λ (others : List (Option Y)). option_map f y ∷ others) (set_each ys n x)

  free_before : (xs : List (Option X)) → prefix_len (λ x. not (is_none x)) (places xs)
      ≡ prefix_len (λ x. not (is_none x)) xs
  free_before [] = refl
  free_before (None ∷ xs) = refl
  free_before (Some x ∷ xs) = ap (λ (n : ℕ). 1 + n) (free_before xs)

  length_places : (xs : List (Option X)) → length (places xs) ≡ length xs
  length_places [] = refl
  length_places (x ∷ xs) = ap (λ (n : ℕ). suc n) (length_places xs)

  pub lowest_free_each : (xs : List (Option X)) → lowest_free (places xs) ≡ lowest_free xs
  lowest_free_each xs =
      ap (λ (n : ℕ). cond (nat_lt n (length (places xs))) (Some n) None) (free_before xs)
      ∙ ap (λ (n : ℕ). cond (nat_lt (prefix_len (λ x. not (is_none x)) xs) n)
      (Some (prefix_len (λ x. not (is_none x)) xs)) None) (length_places xs)

  pub free_each : (n : ℕ) → places (free n) ≡ free n
  free_each zero = refl
  free_each (suc n) = ap (λ (others : List (Option Y)). None ∷ others) (free_each n)

  -- If a function that preserves the kinds of values is applied to the values in all slots, a
  -- lookup by number then returns the function's result for the old value.
  module _ (kind : Y → ℕ) (was : X → ℕ) (kept : (x : X) → kind (f x) ≡ was x) where
    of_kind : (number : ℕ) (found : Option X)
        → option_and_then (if_of_kind kind number) (option_map f found)
        ≡ option_map f (option_and_then (if_of_kind was number) found)
    of_kind number None = refl
    of_kind number (Some x) =
        ap (λ (k : ℕ). cond (eqb (kind_of number) k) (Some (f x)) None) (kept x)
        ∙ chosen (option_map f) (eqb (kind_of number) (was x)) (Some x) None

    pub at_number_each : (xs : List (Option X)) (number : ℕ)
        → at_number kind (places xs) number ≡ option_map f (at_number was xs number)
    unfolding at_number
    at_number_each xs number =
        ap (option_and_then (if_of_kind kind number)) (place_of_each xs (place_of number))
        ∙ of_kind number (at_place xs (place_of number))

    pub without_number_each : (xs : List (Option X)) (number : ℕ)
        → without_number kind (places xs) number ≡ places (without_number was xs number)
    unfolding without_number
    without_number_each xs number =
        ap (λ (b : Bool). cond b (slice_set (places xs) (place_of number) None) (places xs))
        (ap is_some (at_number_each xs number) ∙ is_some_of (at_number was xs number))
        ∙ ap (λ (others : List (Option Y)). cond (is_some (at_number was xs number)) others
        (places xs)) (set_each xs (place_of number) None)
        ∙ chosen places (is_some (at_number was xs number)) (slice_set xs (place_of number) None) xs

    found_changed : (change : Y → Y) (other : X → X) → ((x : X) → change (f x) ≡ f (other x))
        → (xs : List (Option X)) (place : ℕ) (found : Option X)
        → option_map_or (λ (y : Y). slice_set (places xs) place (Some (change y)))
        (option_map f found) (places xs)
        ≡ places (option_map_or (λ (x : X). slice_set xs place (Some (other x))) found xs)
    found_changed change other same xs place None = refl
    found_changed change other same xs place (Some x) =
        ap (λ (y : Y). slice_set (places xs) place (Some y)) (same x)
        ∙ set_each xs place (Some (other x))

    pub changed_at_each : (change : Y → Y) (other : X → X) → ((x : X) → change (f x) ≡ f (other x))
        → (xs : List (Option X)) (number : ℕ)
        → changed_at kind change (places xs) number ≡ places (changed_at was other xs number)
    changed_at_each change other same xs number =
        ap (λ (found : Option Y). option_map_or
        (λ (y : Y). slice_set (places xs) (place_of number) (Some (change y))) found
        (places xs)) (at_number_each xs number)
        ∙ found_changed change other same xs (place_of number) (at_number was xs number)

pub places_twice : {X Y Z : Type 0} (g : Y → Z) (f : X → Y) (h : X → Z) → ((x : X) → g (f x) ≡ h x)
    → (xs : List (Option X)) → places g (places f xs) ≡ places h xs
places_twice g f h same [] = refl
places_twice {Z = Z} g f h same (None ∷ xs) =
    ap (λ (others : List (Option Z)). None ∷ others) (places_twice g f h same xs)
places_twice {Z = Z} g f h same (Some x ∷ xs) =
    ap (λ (z : Z). Some z ∷ places g (places f xs)) (same x)
    ∙ ap (λ (others : List (Option Z)). Some (h x) ∷ others) (places_twice g f h same xs)

-- ---- functions that have no effect when applied a second time

module _ {X : Type 0} (f : X → X) (again : (x : X) → f (f x) ≡ f x) where
  pub places_again : (xs : List (Option X)) → places f (places f xs) ≡ places f xs
  places_again xs = places_twice f f f again xs

  pub each_again : (es : Entries X) → each f (each f es) ≡ each f es
  each_again es = each_twice f f f again es

  pub set_same : (xs : List (Option X)) (n : ℕ) (x y : Option X) → option_map f x ≡ option_map f y
      → places f (slice_set (places f xs) n x) ≡ places f (slice_set xs n y)
  set_same xs n x y same =
      sym (set_each f (places f xs) n x)
      ∙ ap (λ (others : List (Option X)). slice_set others n (option_map f x)) (places_again xs)
      ∙ ap (slice_set (places f xs) n) same
      ∙ set_each f xs n y

  pub without_number_same : (kind : X → ℕ) → ((x : X) → kind (f x) ≡ kind x)
      → (xs : List (Option X)) (number : ℕ) → places f (without_number kind (places f xs) number)
      ≡ places f (without_number kind xs number)
  without_number_same kind kept xs number =
      ap (places f) (without_number_each f kind kind kept xs number)
      ∙ places_again (without_number kind xs number)

  pub with_key_same : (es : Entries X) (key : ℕ) (x y : X) → f x ≡ f y
      → each f (with_key (each f es) key x) ≡ each f (with_key es key y)
  with_key_same es key x y same =
      sym (with_each f (each f es) key x)
      ∙ ap (λ (others : Entries X). with_key others key (f x)) (each_again es)
      ∙ ap (with_key (each f es) key) same
      ∙ with_each f es key y

  pub changed_key_same : (es : Entries X) (key : ℕ) (x y : X) → f x ≡ f y
      → each f (changed_key (each f es) key x) ≡ each f (changed_key es key y)
  changed_key_same es key x y same =
      sym (changed_each f (each f es) key x)
      ∙ ap (λ (others : Entries X). changed_key others key (f x)) (each_again es)
      ∙ ap (changed_key (each f es) key) same
      ∙ changed_each f es key y

  pub without_key_same : (es : Entries X) (key : ℕ)
      → each f (without_key (each f es) key) ≡ each f (without_key es key)
  without_key_same es key = ap (each f) (without_each f es key) ∙ each_again (without_key es key)

  pub kept_same : (stays : X → Bool) → ((x : X) → stays (f x) ≡ stays x) → (es : Entries X)
      → each f (kept_entries stays (each f es)) ≡ each f (kept_entries stays es)
  kept_same stays same es = ap (each f) (kept_each f stays stays same es)
      ∙ each_again (kept_entries stays es)

  pub all_changed_same : (change : X → X) → ((x : X) → f (change (f x)) ≡ f (change x))
      → (es : Entries X) → each f (each change (each f es)) ≡ each f (each change es)
  all_changed_same change same [] = refl
  all_changed_same change same (e ∷ es) =
      ap (λ (x : X). (e.0, x) ∷ each f (each change (each f es))) (same e.1)
      ∙ ap (λ (others : Entries X). (e.0, f (change e.1)) ∷ others)
      (all_changed_same change same es)

  pub all_places_same : (change : Option X → Option X)
      → ((x : Option X) → option_map f (change (option_map f x)) ≡ option_map f (change x))
      → (xs : List (Option X)) → places f (map change (places f xs)) ≡ places f (map change xs)
  all_places_same change same [] = refl
  all_places_same change same (x ∷ xs) =
      ap (λ (y : Option X). y ∷ places f (map change (places f xs))) (same x)
      ∙ ap (λ (others : List (Option X)). option_map f (change x) ∷ others)
      (all_places_same change same xs)

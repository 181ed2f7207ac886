-- A property of the values in all slots still holds after slots change.
use Rattle.std.proofs.Common.{ℕ, zero, suc, Bool, true, false, cond, eqb, List, [], ◌∷◌, Option, Some, None, slice_set, is_some}
use Rattle.std.specs.Prelude.{IfSome, option_and_then}
use Rattle.std.specs.Option.{option_map_or}
use Rattle.tpm_containers.specs.Numbered.{at_number, changed_at, if_of_kind, kind_of, place_of, without_number}
use Rattle.tpm_containers.specs.Slots.{AreAll, at_place, free}

module _ {X : Type 0} (Is : X → Type 0) where
  -- a property of all values holds if all slots are free
  pub all_free : (n : ℕ) → AreAll Is (free n)
  all_free zero place = tt
  all_free (suc n) zero = tt
  all_free (suc n) (suc place) = all_free n place

  -- a property of all values still holds after a slot gets a value with the property, or is freed
  pub all_set : (places : List (Option X)) (place : ℕ) (cell : Option X) → IfSome cell Is
      → AreAll Is places → AreAll Is (slice_set places place cell)
  all_set [] place cell is are other = are other
  all_set (first ∷ places) zero cell is are zero = is
  all_set (first ∷ places) zero cell is are (suc other) = are (suc other)
  all_set (first ∷ places) (suc place) cell is are zero = are zero
  all_set (first ∷ places) (suc place) cell is are (suc other) =
      all_set places place cell is (λ n. are (suc n)) other

  of_kind : (b : Bool) (x : X) → Is x → IfSome (cond b (Some x) None) Is
  of_kind true x is = is
  of_kind false x is = tt

  seen : (kind : X → ℕ) (number : ℕ) (cell : Option X) → IfSome cell Is
      → IfSome (option_and_then (if_of_kind kind number) cell) Is
  seen kind number (Some x) is = of_kind (eqb (kind_of number) (kind x)) x is
  seen kind number None is = tt

  pub all_found : (kind : X → ℕ) (places : List (Option X)) (number : ℕ) → AreAll Is places
      → IfSome (at_number kind places number) Is
  unfolding at_number
  all_found kind places number are =
      seen kind number (at_place places (place_of number)) (are (place_of number))

  -- a property of all values still holds after one value is removed
  pub all_without : (kind : X → ℕ) (places : List (Option X)) (number : ℕ) → AreAll Is places
      → AreAll Is (without_number kind places number)
  unfolding without_number
  all_without kind places number are = by (is_some (at_number kind places number))
    where
      by : (b : Bool) → AreAll Is (cond b (slice_set places (place_of number) None) places)
      by true = all_set places (place_of number) None tt are
      by false = are

  -- a property of all values still holds after one value is changed to a value with the property
  pub all_changed : (kind : X → ℕ) (change : X → X) (places : List (Option X)) (number : ℕ)
      → IfSome (at_number kind places number) (λ x. Is (change x)) → AreAll Is places
      → AreAll Is (changed_at kind change places number)
  all_changed kind change places number is are = by (at_number kind places number) is
    where
      by : (o : Option X) → IfSome o (λ x. Is (change x))
          → AreAll Is
          (option_map_or (λ (x : X). slice_set places (place_of number) (Some (change x))) o places)
      by (Some x) is = all_set places (place_of number) (Some (change x)) is are
      by None is = are

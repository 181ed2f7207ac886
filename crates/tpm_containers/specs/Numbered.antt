-- Slots as a map keyed by number. The three least significant bytes of a number identify a slot,
-- and its most significant byte is the kind of the value in that slot. A search for a number of
-- another kind does not find the value.
use Rattle.std.specs.Prelude.{◌≡◌, ◌≢◌, ℕ, ◌+◌, ◌*◌, ◌/◌, ◌%◌, ◌^◌, ◌==◌, ◌<◌, is_some, List, length, Option, Some, None, option_and_then, if◌then◌else◌, slice_set}
use Rattle.std.specs.Option.{option_map_or}
use Rattle.tpm_containers.specs.Slots.{at_place, lowest_free, taken_count}

abbrev pub place_of : ℕ → ℕ
place_of number = number % 2 ^ 24

abbrev pub kind_of : ℕ → ℕ
kind_of number = number / 2 ^ 24

abbrev pub number_of : (kind place : ℕ) → ℕ
number_of kind place = kind * 2 ^ 24 + place

module _ {X : Type 0} where
  abbrev pub if_of_kind : (X → ℕ) → ℕ → X → Option X
  if_of_kind kind number x = if kind_of number == kind x then Some x else None

  -- the value with this number, or None
  unfoldable pub at_number : (X → ℕ) → List (Option X) → ℕ → Option X
  at_number kind places number =
      option_and_then (if_of_kind kind number) (at_place places (place_of number))

  -- the slots without the value with this number; unchanged if no value has this number
  unfoldable pub without_number : (X → ℕ) → List (Option X) → ℕ → List (Option X)
  without_number kind places number =
      if is_some (at_number kind places number) then slice_set places (place_of number) None else places

  -- the slots after changing the value with this number; unchanged if no value has this number
  abbrev pub changed_at : (X → ℕ) → (X → X) → List (Option X) → ℕ → List (Option X)
  changed_at kind change places number =
      option_map_or (λ (x : X). slice_set places (place_of number) (Some (change x)))
      (at_number kind places number) places

  -- the laws of slots as a map keyed by number
  pub record MapLaws (kind : X → ℕ) : Type 0 where
    -- a value that is put into the lowest free slot is found by its number, and the other values
    -- are unchanged
    pub put_found : (places : List (Option X)) (place : ℕ) (x : X) → place < 2 ^ 24
        → lowest_free places ≡ Some place
        → at_number kind (slice_set places place (Some x)) (number_of (kind x) place) ≡ Some x
    pub put_others : (places : List (Option X)) (place : ℕ) (x : X) (other : ℕ) → place < 2 ^ 24
        → lowest_free places ≡ Some place → other ≢ number_of (kind x) place
        → at_number kind (slice_set places place (Some x)) other ≡ at_number kind places other
    -- a search for a number that identifies the lowest free slot finds nothing, and each lower slot
    -- is taken
    pub free : (places : List (Option X)) (k place : ℕ) → place < 2 ^ 24
        → lowest_free places ≡ Some place → at_number kind places (number_of k place) ≡ None
    pub lowest : (places : List (Option X)) (place below : ℕ)
        → lowest_free places ≡ Some place → below < place → at_place places below ≢ None
    -- if there is no free slot, all slots are taken
    pub full : (places : List (Option X)) (place : ℕ)
        → lowest_free places ≡ None → place < length places → at_place places place ≢ None
    -- a value in a slot is found by its number
    pub taken : (places : List (Option X)) (place : ℕ) (x : X) → place < 2 ^ 24
        → at_place places place ≡ Some x → at_number kind places (number_of (kind x) place) ≡ Some x
    -- after a removal, no value has the number, and the other values are unchanged
    pub removed_gone : (places : List (Option X)) (number : ℕ)
        → at_number kind (without_number kind places number) number ≡ None
    pub removed_others : (places : List (Option X)) (number other : ℕ) → other ≢ number
        → at_number kind (without_number kind places number) other ≡ at_number kind places other
    -- removing a number without a value changes nothing
    pub removed_absent : (places : List (Option X)) (number : ℕ)
        → at_number kind places number ≡ None → without_number kind places number ≡ places
    -- a changed value that keeps its kind is found by its number, and the other values are
    -- unchanged
    pub changed_found : (change : X → X) → ((x : X) → kind (change x) ≡ kind x)
        → (places : List (Option X)) (number : ℕ) (x : X) → at_number kind places number ≡ Some x
        → at_number kind (changed_at kind change places number) number ≡ Some (change x)
    pub changed_others : (change : X → X) → ((x : X) → kind (change x) ≡ kind x)
        → (places : List (Option X)) (number other : ℕ) → other ≢ number
        → at_number kind (changed_at kind change places number) other ≡ at_number kind places other
    -- the number of taken slots increases by one when a value is put into a free slot. It decreases
    -- by one when a value is removed, and stays the same when a value is changed
    pub put_taken : (places : List (Option X)) (place : ℕ) (x : X)
        → lowest_free places ≡ Some place
        → taken_count (slice_set places place (Some x)) ≡ taken_count places + 1
    pub removed_one : (places : List (Option X)) (number : ℕ) (x : X)
        → at_number kind places number ≡ Some x
        → taken_count (without_number kind places number) + 1 ≡ taken_count places
    pub changed_taken : (change : X → X) (places : List (Option X)) (number : ℕ)
        → taken_count (changed_at kind change places number) ≡ taken_count places

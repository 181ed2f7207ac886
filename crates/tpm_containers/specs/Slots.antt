-- Slots, numbered from 0. Each is free or contains a value.
use Rattle.std.specs.Prelude.{◌≡◌, ℕ, ◌-◌, ◌<◌, Bool, true, IfSome, is_none, is_some, count_by, List, ◌++◌, length, Option, Some, None, option_and_then, Result, Ok, Err, replicate, slice_get, slice_set, position}
use Rattle.tpm_containers.specs.declared.slots.SlotFault.{SlotFault}
use Rattle.tpm_containers.specs.declared.slots.SlotFault.TheVariants.{Full, NoMemory}

-- this many free slots
abbrev pub free : {X : Type 0} → ℕ → List (Option X)
free n = replicate n None

-- the value in a slot, or None if the slot is free
abbrev pub at_place : {X : Type 0} → List (Option X) → ℕ → Option X
at_place places place = option_and_then (λ x. x) (slice_get places place)

-- Each value in the slots has this property.
abbrev pub AreAll : {X : Type 0} → (X → Type 0) → List (Option X) → Type 0
AreAll IsOne places = (place : ℕ) → IfSome (at_place places place) IsOne

abbrev pub lowest_free : {X : Type 0} → List (Option X) → Option ℕ
lowest_free places = position is_none places

-- the number of taken slots
abbrev pub taken_count : {X : Type 0} → List (Option X) → ℕ
taken_count places = count_by is_some places

-- On success, the value was put into the lowest free slot. On failure, nothing changed: all slots
-- were taken, or an allocation failed.
abbrev pub Inserts : {X : Type 0} → ℕ → Bool → List (Option X) → X
    → Result ℕ SlotFault → List (Option X) → Type 0
Inserts most can old x (Ok place) new =
    (lowest_free old ≡ Some place) × (place < most) × (new ≡ slice_set old place (Some x))
Inserts most can old x (Err Full) new = (lowest_free old ≡ None) × (new ≡ old)
Inserts most can old x (Err NoMemory) new =
    (place : ℕ) × (lowest_free old ≡ Some place) × (can ≡ true) × (new ≡ old)

-- On success, the value was put into this slot. On failure, an allocation failed, and nothing
-- changed.
abbrev pub Puts : {X : Type 0} → Bool → List (Option X) → (place : ℕ) → X
    → Result (Unit {0}) SlotFault → List (Option X) → Type 0
Puts can old place x (Ok done) new = new ≡ slice_set old place (Some x)
Puts can old place x (Err Full) new = ⊥
Puts can old place x (Err NoMemory) new = (can ≡ true) × (new ≡ old)

-- all `most` slots. The first slots are stored in cells, and the slots without a cell are free
abbrev pub padded_to : {X : Type 0} → ℕ → List (Option X) → List (Option X)
padded_to most cells = cells ++ free (most - length cells)

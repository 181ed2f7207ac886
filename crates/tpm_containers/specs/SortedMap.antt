-- A map whose keys are numbers, as a list of entries with ascending keys.
use Rattle.std.specs.Prelude.{◌≡◌, ℕ, ◌==◌, ◌<◌, ◌≤◌, nat_le, Bool, true, List, [], ◌∷◌, length, filter, Option, Some, None, Result, Ok, Err, is_some, if◌then◌else◌}
use Rattle.tpm_containers.specs.declared.sorted_map.KeyFault.{KeyFault}
use Rattle.tpm_containers.specs.declared.sorted_map.KeyFault.TheVariants.{Taken, Full, NoMemory}

-- entries, each of which is a key with its value
abbrev pub Entries : Type 0 → Type 0
Entries X = List (ℕ × X)

module _ {X : Type 0} where
  -- the value of a key, or None if the key has no value
  abbrev pub at_key : Entries X → ℕ → Option X
  at_key [] key = None
  at_key (e ∷ es) key = if e.0 == key then Some e.1 else at_key es key

  -- the first key that is at least `key`. Because the keys ascend, it is also the lowest such key
  abbrev pub key_from : Entries X → ℕ → Option ℕ
  key_from [] key = None
  key_from (e ∷ es) key = if nat_le key e.0 then Some e.0 else key_from es key

  -- the entries with a new key and its value, inserted before the entries with higher keys
  abbrev pub with_key : Entries X → ℕ → X → Entries X
  with_key [] key x = (key, x) ∷ []
  with_key (e ∷ es) key x = if nat_le key e.0 then (key, x) ∷ e ∷ es else e ∷ with_key es key x

  -- the entries with a new value for this key, if the key exists
  abbrev pub changed_key : Entries X → ℕ → X → Entries X
  changed_key [] key x = []
  changed_key (e ∷ es) key x = if e.0 == key then (e.0, x) ∷ es else e ∷ changed_key es key x

  -- the entries without this key and its value
  abbrev pub without_key : Entries X → ℕ → Entries X
  without_key [] key = []
  without_key (e ∷ es) key = if e.0 == key then es else e ∷ without_key es key

  -- the entries whose values pass the test `stays`
  abbrev pub kept_entries : (X → Bool) → Entries X → Entries X
  kept_entries stays entries = filter (λ e. stays e.1) entries

  -- Each key of these entries is greater than `key`.
  abbrev pub AllAbove : ℕ → Entries X → Type 0
  AllAbove key [] = Unit {0}
  AllAbove key (e ∷ es) = (key < e.0) × AllAbove key es

  -- The keys ascend. Therefore no key occurs twice.
  abbrev pub Ascends : Entries X → Type 0
  Ascends [] = Unit {0}
  Ascends (e ∷ es) = AllAbove e.0 es × Ascends es

  -- Each key and its value have this property.
  abbrev pub AreEach : (ℕ → X → Type 0) → Entries X → Type 0
  AreEach Is [] = Unit {0}
  AreEach Is (e ∷ es) = Is e.0 e.1 × AreEach Is es

  -- On success, the value was inserted under a free key. On failure, nothing changed, and the fault
  -- is the first that applies: the key is taken, the map is full, or an allocation failed.
  abbrev pub PutsKey : ℕ → Bool → Entries X → ℕ → X → Result (Unit {0}) KeyFault → Entries X
      → Type 0
  PutsKey most can old key x (Ok done) new =
      (at_key old key ≡ None) × (length old < most) × (new ≡ with_key old key x)
  PutsKey most can old key x (Err Taken) new = (is_some (at_key old key) ≡ true) × (new ≡ old)
  PutsKey most can old key x (Err Full) new =
      (at_key old key ≡ None) × (most ≤ length old) × (new ≡ old)
  PutsKey most can old key x (Err NoMemory) new =
      (at_key old key ≡ None) × (length old < most) × (can ≡ true) × (new ≡ old)

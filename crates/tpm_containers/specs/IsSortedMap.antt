-- The laws of a map with ascending keys.
use Rattle.std.specs.Prelude.{◌≡◌, ◌≢◌, ℕ, ◌+◌, ◌<◌, ◌≤◌, Bool, false, true, length, Some, None, is_some}
use Rattle.tpm_containers.specs.SortedMap.{Ascends, Entries, at_key, changed_key, kept_entries, key_from, with_key, without_key}

-- Entries with ascending keys, and values of this type, form a map.
pub record IsSortedMap (X : Type 0) : Type 0 where
  -- a value that is inserted under a free key is found by that key, and the other values are
  -- unchanged
  pub put_found : (entries : Entries X) (key : ℕ) (x : X) → at_key entries key ≡ None
      → at_key (with_key entries key x) key ≡ Some x
  pub put_others : (entries : Entries X) (key : ℕ) (x : X) (other : ℕ) → other ≢ key
      → at_key (with_key entries key x) other ≡ at_key entries other
  -- after a value is inserted under a free key, the keys still ascend, and there is one more key
  pub put_ascends : (entries : Entries X) (key : ℕ) (x : X) → Ascends entries
      → at_key entries key ≡ None → Ascends (with_key entries key x)
  pub put_length : (entries : Entries X) (key : ℕ) (x : X)
      → length (with_key entries key x) ≡ length entries + 1
  -- a removed key has no value, and the other values are unchanged
  pub removed_gone : (entries : Entries X) (key : ℕ) → Ascends entries
      → at_key (without_key entries key) key ≡ None
  pub removed_others : (entries : Entries X) (key other : ℕ) → other ≢ key
      → at_key (without_key entries key) other ≡ at_key entries other
  -- removing a key that does not exist changes nothing
  pub removed_absent : (entries : Entries X) (key : ℕ) → at_key entries key ≡ None
      → without_key entries key ≡ entries
  -- after a removal the keys still ascend. Their number decreases by one if the key existed, and
  -- never increases
  pub removed_ascends : (entries : Entries X) (key : ℕ) → Ascends entries
      → Ascends (without_key entries key)
  pub removed_length : (entries : Entries X) (key : ℕ) (x : X) → at_key entries key ≡ Some x
      → length (without_key entries key) + 1 ≡ length entries
  pub removed_few : (entries : Entries X) (key : ℕ)
      → length (without_key entries key) ≤ length entries
  -- the changed value is found by its key, and the other values are unchanged
  pub changed_found : (entries : Entries X) (key : ℕ) (old x : X) → at_key entries key ≡ Some old
      → at_key (changed_key entries key x) key ≡ Some x
  pub changed_others : (entries : Entries X) (key : ℕ) (x : X) (other : ℕ) → other ≢ key
      → at_key (changed_key entries key x) other ≡ at_key entries other
  -- changing the value of a key that does not exist changes nothing
  pub changed_absent : (entries : Entries X) (key : ℕ) (x : X) → at_key entries key ≡ None
      → changed_key entries key x ≡ entries
  -- after a change the keys still ascend, and their number stays the same
  pub changed_ascends : (entries : Entries X) (key : ℕ) (x : X) → Ascends entries
      → Ascends (changed_key entries key x)
  pub changed_length : (entries : Entries X) (key : ℕ) (x : X)
      → length (changed_key entries key x) ≡ length entries
  -- keeping only some values leaves these values unchanged, removes all other values, and adds no
  -- value
  pub kept_found : (stays : X → Bool) (entries : Entries X) (key : ℕ) (x : X)
      → at_key entries key ≡ Some x → stays x ≡ true
      → at_key (kept_entries stays entries) key ≡ Some x
  pub kept_gone : (stays : X → Bool) (entries : Entries X) (key : ℕ) (x : X) → Ascends entries
      → at_key entries key ≡ Some x → stays x ≡ false
      → at_key (kept_entries stays entries) key ≡ None
  pub kept_absent : (stays : X → Bool) (entries : Entries X) (key : ℕ) → at_key entries key ≡ None
      → at_key (kept_entries stays entries) key ≡ None
  -- after only some values are kept, the keys still ascend, and their number has not grown
  pub kept_ascends : (stays : X → Bool) (entries : Entries X) → Ascends entries
      → Ascends (kept_entries stays entries)
  pub kept_few : (stays : X → Bool) (entries : Entries X)
      → length (kept_entries stays entries) ≤ length entries
  -- if `key_from` returns `next` for `key`, then `next` is in the map and is at least `key`. No
  -- lower key that is at least `key` is in the map
  pub next_there : (entries : Entries X) (key next : ℕ) → key_from entries key ≡ Some next
      → is_some (at_key entries next) ≡ true
  pub next_from : (entries : Entries X) (key next : ℕ) → key_from entries key ≡ Some next
      → key ≤ next
  pub next_lowest : (entries : Entries X) (key next other : ℕ) → Ascends entries
      → key_from entries key ≡ Some next → key ≤ other → other < next → at_key entries other ≡ None
  -- if `key_from` returns None for `key`, no key in the map is at least `key`
  pub next_none : (entries : Entries X) (key other : ℕ) → key_from entries key ≡ None → key ≤ other
      → at_key entries other ≡ None
  -- two lists of entries are equal if each key has the same value in both
  pub same_entries : (entries others : Entries X) → Ascends entries → Ascends others
      → ((key : ℕ) → at_key entries key ≡ at_key others key) → entries ≡ others

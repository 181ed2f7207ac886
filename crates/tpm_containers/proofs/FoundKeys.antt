-- How a change of a map affects the value of each key. The change removes or replaces a value,
-- keeps only some values, or changes all values.
use Rattle.std.proofs.Common.{◌≡◌, ◌⊎◌, ℕ, Bool, true, false, cond, [], ◌∷◌, map, Option, Some, None, option_map, ◌==◌, refl, sym, ap, ◌∙◌, inl, inr}
use Rattle.std.proofs.lemmas.Bool.{cases_Bool, cases_eq}
use Rattle.tpm_containers.specs.IsSortedMap.{IsSortedMap}
use Rattle.tpm_containers.specs.SortedMap.{Ascends, Entries, at_key, changed_key, kept_entries, without_key}
use Rattle.tpm_containers.proofs.SortedMapLaws.{is_map}

module _ {X : Type 0} where
  laws : IsSortedMap X
  laws = is_map

  -- After a key is removed, each key has the same value as before or no value.
  pub removed_or_same : (es : Entries X) (key other : ℕ) → Ascends es
      → (at_key (without_key es key) other ≡ at_key es other)
      ⊎ (at_key (without_key es key) other ≡ None)
  removed_or_same es key other up =
      elim (cases_eq other key) [
        | inl here ↦ inr (ap (at_key (without_key es key)) here ∙ laws.removed_gone es key up)
        | inr apart ↦ inl (laws.removed_others es key other apart)
      ]

  -- If only some values are kept, each key has the same value as before or no value.
  pub kept_or_gone : (stays : X → Bool) (es : Entries X) (key : ℕ) → Ascends es
      → (at_key (kept_entries stays es) key ≡ at_key es key)
      ⊎ (at_key (kept_entries stays es) key ≡ None)
  kept_or_gone stays es key up = by (at_key es key) refl
    where
      by : (found : Option X) → at_key es key ≡ found → (at_key (kept_entries stays es) key ≡ found)
          ⊎ (at_key (kept_entries stays es) key ≡ None)
      by None none = inr (laws.kept_absent stays es key none)
      by (Some x) there =
          elim (cases_Bool (stays x)) [
            | inl good ↦ inl (laws.kept_found stays es key x there good)
            | inr bad ↦ inr (laws.kept_gone stays es key x up there bad)
          ]

  -- if `shown` does not distinguish a value from its replacement, replacing the value does not
  -- change what `shown` returns for any key
  pub changed_shows : {V : Type 0} (shown : X → V) (es : Entries X) (key : ℕ) (old new : X)
      → at_key es key ≡ Some old → shown new ≡ shown old → (other : ℕ)
      → option_map shown (at_key (changed_key es key new) other)
      ≡ option_map shown (at_key es other)
  changed_shows {V} shown es key old new there same other =
      elim (cases_eq other key) [
        | inl here ↦
            ap (λ n. option_map shown (at_key (changed_key es key new) n)) here
            ∙ ap (option_map shown) (laws.changed_found es key old new there)
            ∙ ap (λ (v : V). Some v) same
            ∙ sym (ap (λ n. option_map shown (at_key es n)) here ∙ ap (option_map shown) there)
        | inr apart ↦ ap (option_map shown) (laws.changed_others es key new other apart)
      ]

  -- the entries, with all values changed. Each key then has its changed value
  abbrev pub all_changed : (X → X) → Entries X → Entries X
  all_changed change es = map (λ e. (e.0, change e.1)) es

  pub all_changed_found : (change : X → X) (es : Entries X) (key : ℕ)
      → at_key (all_changed change es) key ≡ option_map change (at_key es key)
  all_changed_found change [] key = refl
  all_changed_found change (e ∷ es) key = first (e.0 == key) (all_changed_found change es key)
    where
      first : (b : Bool) → at_key (all_changed change es) key ≡ option_map change (at_key es key)
          → cond b (Some (change e.1)) (at_key (all_changed change es) key)
          ≡ option_map change (cond b (Some e.1) (at_key es key))
      first true rest = refl
      first false rest = rest

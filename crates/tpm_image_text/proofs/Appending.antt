-- Lemmas about an entry that is appended to entries with lower keys.
use Rattle.std.proofs.Common.{arith, ◌≡◌, ℕ, ◌+◌, ◌≤◌, [], ◌∷◌, ◌++◌, None, refl, ap}
use Rattle.std.proofs.lemmas.Bool.{lt-leb, ne_eqb}
use Rattle.tpm_containers.specs.SortedMap.{Entries, at_key, with_key}
use Rattle.tpm_image_text.specs.Filling.{AllBelow}

module _ {X : Type 0} where
  -- if all keys are below a bound, they are below every higher bound
  pub all_below : (low key : ℕ) (es : Entries X) → low ≤ key → AllBelow low es → AllBelow key es
  all_below low key [] up below = tt
  all_below low key (e ∷ es) up below =
      (omega (arith, up, below.0), all_below low key es up below.1)

  -- if all keys are below a bound, no entry has a key at or above that bound
  pub free_above : (es : Entries X) (low key : ℕ) → low ≤ key → AllBelow low es
      → at_key es key ≡ None
  free_above [] low key up below = refl
  free_above (e ∷ es) low key up below =
      let other = ne_eqb e.0 key (λ same. absurd (omega (arith, same, up, below.0))) in
      rw other (free_above es low key up below.1)

  -- inserting a value with a key above all others appends it
  pub put_behind : (es : Entries X) (low key : ℕ) (x : X) → low ≤ key → AllBelow low es
      → with_key es key x ≡ es ++ (key, x) ∷ []
  put_behind [] low key x up below = refl
  put_behind (e ∷ es) low key x up below =
      let after = lt-leb key e.0 (omega (arith, up, below.0)) in
      rw after (ap (λ (l : Entries X). e ∷ l) (put_behind es low key x up below.1))

pub ruleset appended = (free_above, put_behind)

-- after an entry is appended, all keys are below the lowest key allowed for the next entry
pub behind_below : {X : Type 0} (es : Entries X) (low next : ℕ) (e : ℕ × X) → low ≤ e.0
    → next ≡ e.0 + 1 → AllBelow low es → AllBelow next (es ++ e ∷ [])
behind_below [] low next e up is below = (omega (arith, is), tt)
behind_below (d ∷ es) low next e up is below =
    (omega (arith, up, is, below.0), behind_below es low next e up is below.1)

-- Lemmas about entries whose keys ascend, and about properties of each entry.
use Rattle.std.proofs.Common.{◌≡◌, ℕ, ◌+◌, ◌<◌, Bool, true, false, [], ◌∷◌, refl, arith}
use Rattle.std.specs.Prelude.{◌&&◌, nat_le}
use Rattle.std.specs.List.{AllByRecursion}
use Rattle.std.proofs.lemmas.Bool.{le-leb, leb-true}
use Rattle.tpm_containers.specs.SortedMap.{AllAbove, AreEach, Ascends, Entries}
use Rattle.tpm_image_text.specs.Body.{ascend_from}

pub are_both : (a b : Bool) → (a && b) ≡ true → (a ≡ true) × (b ≡ true)
are_both true b e = (refl, e)
are_both false b e = absurd cc

pub both : (a b : Bool) → a ≡ true → b ≡ true → (a && b) ≡ true
both a b first second = rw (first, second) refl

module _ {X : Type 0} where
  -- if the keys ascend from `low`, and `low` is above `key`, all keys are above `key`
  all_above : (key low : ℕ) (es : Entries X) → key < low → ascend_from low es ≡ true
      → AllAbove key es
  all_above key low [] less ascend = tt
  all_above key low (e ∷ es) less ascend =
      let each = are_both (nat_le low e.0) (ascend_from (e.0 + 1) es) ascend in
      let above : key < e.0 = omega (arith, less, leb-true low e.0 each.0) in
      (above, all_above key (e.0 + 1) es (omega (arith, above)) each.1)

  pub ascends : (low : ℕ) (es : Entries X) → ascend_from low es ≡ true → Ascends es
  ascends low [] ascend = tt
  ascends low (e ∷ es) ascend =
      let each = are_both (nat_le low e.0) (ascend_from (e.0 + 1) es) ascend in
      (all_above e.0 (e.0 + 1) es (omega arith) each.1, ascends (e.0 + 1) es each.1)

  ascends_above : (key : ℕ) (es : Entries X) → AllAbove key es → Ascends es
      → ascend_from (key + 1) es ≡ true
  ascends_above key [] above ascend = refl
  ascends_above key (e ∷ es) above ascend =
      let after = le-leb (key + 1) e.0 (omega (arith, above.0)) in
      both (nat_le (key + 1) e.0) (ascend_from (e.0 + 1) es) after
      (ascends_above e.0 es ascend.0 ascend.1)

  pub ascends-again : (es : Entries X) → Ascends es → ascend_from 0 es ≡ true
  ascends-again [] ascend = refl
  ascends-again (e ∷ es) ascend =
      both (nat_le 0 e.0) (ascend_from (e.0 + 1) es) (le-leb 0 e.0 (omega arith))
      (ascends_above e.0 es ascend.0 ascend.1)

  pub are_each : (Is : ℕ → X → Type 0) (es : Entries X) → AllByRecursion (λ e. Is e.0 e.1) es
      → AreEach Is es
  are_each Is [] all = tt
  are_each Is (e ∷ es) all = (all.0, are_each Is es all.1)

  pub are_each-again : (Is : ℕ → X → Type 0) (es : Entries X) → AreEach Is es
      → AllByRecursion (λ e. Is e.0 e.1) es
  are_each-again Is [] each = tt
  are_each-again Is (e ∷ es) each = (each.0, are_each-again Is es each.1)

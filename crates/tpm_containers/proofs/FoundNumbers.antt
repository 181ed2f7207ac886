-- After a removal, a search for any number finds the same value as before, or nothing. If all slots
-- are free, a search finds no value.
use Rattle.std.proofs.Common.{◌≡◌, ◌⊎◌, ℕ, zero, suc, List, Option, None, option_and_then, refl, ap, ◌∙◌, inl, inr}
use Rattle.std.proofs.lemmas.Bool.{cases_eq}
use Rattle.tpm_containers.specs.Numbered.{at_number, if_of_kind, place_of, without_number}
use Rattle.tpm_containers.specs.Slots.{at_place, free}
use Rattle.tpm_containers.proofs.NumberedLaws.{removed_gone, removed_others}

module _ {X : Type 0} (kind : X → ℕ) where
  -- After a number is removed, a search for any number finds the same value as before, or nothing.
  pub removed_or_same : (places : List (Option X)) (number other : ℕ)
      → (at_number kind (without_number kind places number) other ≡ at_number kind places other)
      ⊎ (at_number kind (without_number kind places number) other ≡ None)
  removed_or_same places number other =
      elim (cases_eq other number) [
        | inl here ↦ inr (ap (at_number kind (without_number kind places number)) here
            ∙ removed_gone kind places number)
        | inr apart ↦ inl (removed_others kind places number other apart)
      ]

  -- if all slots are free, no slot contains a value
  free_place : (count place : ℕ) → at_place {X = X} (free count) place ≡ None
  free_place zero place = refl
  free_place (suc count) zero = refl
  free_place (suc count) (suc place) = free_place count place

  pub free_found : (count number : ℕ) → at_number kind (free count) number ≡ None
  unfolding at_number
  free_found count number =
      ap (option_and_then (if_of_kind kind number)) (free_place count (place_of number))

-- Decoding returns optional values and slots exactly when the bytes begin with their encoding.
use Rattle.std.proofs.Common.{◌≡◌, ℕ, zero, suc, Bool, true, false, List, [], ◌∷◌, ◌++◌, length, Option, Some, None, is_some, IfSome, Result, Ok, refl, subst}
use Rattle.std.specs.List.{AllByRecursion}
use Rattle.tpm_bytes.proofs.Fields.{AreBytes, Takes, bind_ok, ok_is}
use Rattle.tpm_containers.specs.Slots.{AreAll}
use Rattle.tpm_image_text.specs.Fields.{yes_no_text}
use Rattle.tpm_image_text.specs.declared.fault.Malformed.{Malformed}
use Rattle.tpm_image_text.proofs.FieldSpelling.{many_spelled, only, yes_no_spelled}
use Rattle.tpm_types_common.proofs.Spelled.{Spelled, first, for_each, respelled}
use Rattle.tpm_state_text.specs.Places.{optional_after, optional_in, optional_text, places_in, places_text}

-- ---- slots whose values have a property

-- if the values in all occupied slots have a property, each element of the list is free or has the
-- property
pub each_of_all : {A : Type 0} (Is : A → Type 0) (places : List (Option A)) → AreAll Is places
    → AllByRecursion (λ value. IfSome value Is) places
each_of_all Is [] all = tt
each_of_all Is (value ∷ values) all = (all 0, each_of_all Is values (λ place. all (suc place)))

-- ---- encodings

module _ {A : Type 0} {text : A → List ℕ} {Is : A → Type 0}
    {at : List ℕ → Result (A × List ℕ) Malformed} (law : Spelled text Is at) where
  -- the part of an encoded optional value after the byte that says whether there is a value
  abbrev pub after : Option A → List ℕ
  after None = []
  after (Some x) = text x

  abbrev pub IsOne : Bool → Option A → Type 0
  IsOne is_there value = IfSome value Is × (is_some value ≡ is_there)

  pub after_spelled : (is_there : Bool)
      → Spelled after (IsOne is_there) (optional_after at is_there)
  after_spelled false = only None refl (tt, refl) none
    where
      none : (value : Option A) → IsOne false value → value ≡ None
      none None is = refl
      none (Some x) is = absurd cc
  after_spelled true = record { taken = taken; again = again }
    where
      taken : (bytes : List ℕ) (x : Option A × List ℕ) → AreBytes bytes
          → optional_after at true bytes ≡ Ok x → Takes bytes (after x.0) x.1 × IsOne true x.0
      taken bytes x fits e =
          let a = bind_ok (at bytes) (λ y. Ok (Some y.0, y.1)) x e in
          let t = law.taken bytes a.0 fits a.1 in
          let made : Option A × List ℕ = (Some a.0.0, a.0.1) in
          subst (λ (y : Option A × List ℕ). Takes bytes (after y.0) y.1 × IsOne true y.0)
          (ok_is made x a.2) (t.0, (t.1, refl))

      again : (value : Option A) (rest : List ℕ) → IsOne true value
          → optional_after at true (after value ++ rest) ≡ Ok (value, rest)
      again None rest is = absurd cc
      again (Some x) rest is = rw (law.again x rest is.0) refl

  pub optional_spelled : Spelled (optional_text text) (λ value. IfSome value Is) (optional_in at)
  optional_spelled =
      respelled
      (first yes_no_spelled
      (for_each is_some after (λ value. IfSome value Is) (optional_after at) after_spelled))
      parts (λ value is. is.1) (λ value is. (tt, is))
    where
      parts : (value : Option A) → optional_text text value ≡ yes_no_text (is_some value)
          ++ after value
      parts None = refl
      parts (Some x) = refl

  pub places_spelled : (count : ℕ)
      → Spelled (places_text text) (λ places. (length places ≡ count) × AreAll Is places)
      (places_in count at)
  places_spelled count =
      respelled (many_spelled count optional_spelled) (λ places. refl)
      (λ places is. (is.0, all places is.1))
      (λ places is. (is.0, each_of_all Is places is.1))
    where
      all : (places : List (Option A)) → AllByRecursion (λ value. IfSome value Is) places
          → AreAll Is places
      all [] each place = tt
      all (value ∷ values) each zero = each.0
      all (value ∷ values) each (suc place) = all values each.1 place

-- A list of TPM2_GetCapability that does not contain an element is the same for every value of this
-- element.
use Rattle.std.proofs.Common.{arith, ap, inl, inr, refl, subst, sym, ◌∙◌, zero, suc}
use Rattle.std.proofs.lemmas.Bool.{and_cases, ltb-false}
use Rattle.std.proofs.lemmas.List.Sums.{sum_by-append, sum_by-cons}
use Rattle.std.specs.Int.{w32, to_be_bytes}
use Rattle.std.specs.List.{flat_map}
use Rattle.std.specs.Prelude.{Bool, List, [], ◌∷◌, ◌++◌, ◌+◌, ◌≡◌, ◌≤◌, ◌&&◌, cond, false, true, filter, if◌then◌else◌, min, nat_le, nat_lt, take, ℕ}
use Rattle.tpm_actions_capability.specs.Element.{element, found_count, is_from, listing, told_count, told_text}
use Rattle.tpm_actions_capability.specs.declared.element.Element.{Element}
use Rattle.tpm_actions_capability.specs.declared.element.Telling.{Telling}

-- the first k of the elements that are at least `from` are elements of the first part of a list, if
-- this part has k such elements
pub first_same : (from k : ℕ) (before xs ys : List Element) → k ≤ found_count from before
    → take k (filter (is_from from) (before ++ xs)) ≡ take k (filter (is_from from) (before ++ ys))
first_same from zero before xs ys enough = refl
first_same from (suc k) [] xs ys enough = absurd (omega (arith, enough))
first_same from (suc k) (e ∷ before) xs ys enough =
    by (is_from from e) (first_same from k before xs ys) (first_same from (suc k) before xs ys)
    (subst (λ (n : ℕ). suc k ≤ n) (sum_by-cons (λ x. cond (is_from from x) 1 0) e before) enough)
  where
    found : List Element → List Element
    found after = filter (is_from from) (before ++ after)

    by : (b : Bool) → (k ≤ found_count from before → take k (found xs) ≡ take k (found ys))
        → (suc k ≤ found_count from before → take (suc k) (found xs) ≡ take (suc k) (found ys))
        → suc k ≤ cond b 1 0 + found_count from before
        → take (suc k) (cond b (e ∷ found xs) (found xs))
        ≡ take (suc k) (cond b (e ∷ found ys) (found ys))
    by true fewer same enough =
        ap (λ (l : List Element). e ∷ l) (fewer (omega (arith, enough)))
    by false fewer same enough = same (omega (arith, enough))

-- an element that is less than `from` is not listed
pub skipped_same : (from : ℕ) (before xs ys : List Element)
    → filter (is_from from) xs ≡ filter (is_from from) ys
    → filter (is_from from) (before ++ xs) ≡ filter (is_from from) (before ++ ys)
skipped_same from [] xs ys same = same
skipped_same from (e ∷ before) xs ys same =
    ap (λ (l : List Element). cond (is_from from e) (e ∷ l) l)
    (skipped_same from before xs ys same)

module _ (from count number : ℕ) (before after : List Element) where
  abbrev with_value : ℕ → List Element
  with_value told = before ++ element number told ∷ after

  found_same : (one other : ℕ)
      → found_count from (with_value one) ≡ found_count from (with_value other)
  found_same one other =
      sum_by-append (λ x. cond (is_from from x) 1 0) before (element number one ∷ after)
      ∙ sym (sum_by-append (λ x. cond (is_from from x) 1 0) before (element number other ∷ after))

  few : (one : ℕ) → nat_lt (found_count from before) count ≡ false
      → told_count from count (with_value one) ≤ found_count from before
  few one full =
      let at_most : count ≤ found_count from before = ltb-false _ _ full in
      omega (arith, at_most)

  taken_same : (one other : ℕ)
      → (nat_le from number && nat_lt (found_count from before) count) ≡ false
      → take (told_count from count (with_value one)) (filter (is_from from) (with_value one))
      ≡ take (told_count from count (with_value one)) (filter (is_from from) (with_value other))
  taken_same one other apart =
      elim (and_cases (nat_le from number) (nat_lt (found_count from before) count) apart) [
        | inl later ↦
            ap (take (told_count from count (with_value one)))
            (skipped_same from before (element number one ∷ after) (element number other ∷ after)
            (rw later refl))
        | inr full ↦
            first_same from (told_count from count (with_value one)) before _ _ (few one full)
      ]

  -- the list is the same for every value of the element, if it begins after the element or is full
  -- before it
  pub listing_same : (telling : Telling) (capability one other : ℕ)
      → (nat_le from number && nat_lt (found_count from before) count) ≡ false
      → listing telling capability from count (with_value one)
      ≡ listing telling capability from count (with_value other)
  listing_same telling capability one other apart =
      ap (λ (es : List Element). head (found_count from (with_value one))
      (flat_map (told_text telling) es)) (taken_same one other apart)
      ∙ ap (λ (found : ℕ). head found (flat_map (told_text telling) (take
      (min found (min count 64)) (filter (is_from from) (with_value other)))))
      (found_same one other)
    where
      head : (found : ℕ) → List ℕ → List ℕ
      head found text =
          (if nat_lt (min found (min count 64)) found then 1 else 0)
          ∷ to_be_bytes w32 capability ++ to_be_bytes w32 (min found (min count 64)) ++ text

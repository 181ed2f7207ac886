-- A search in ascending order finds the lowest number that passes a test.
use Rattle.std.proofs.Common.{arith, ◌≡◌, ◌⊎◌, ◌<◌, ℕ, zero, suc, Bool, true, false, Option, Some, None, refl, subst, inl, inr}
use Rattle.std.specs.Prelude.{if◌then◌else◌}
use Rattle.std.proofs.lemmas.Bool.{cases_eq}
use Rattle.tpm_record.specs.AnyObject.{least_below, or_else}

or_none : {X : Type 0} (first other : Option X) → first ≡ None → other ≡ None
    → or_else first other ≡ None
or_none None other none also = also
or_none (Some x) other none also = absurd cc

or_some : {X : Type 0} (first other : Option X) (x : X) → first ≡ Some x
    → or_else first other ≡ Some x
or_some None other x is = absurd cc
or_some (Some y) other x is = is

or_then : {X : Type 0} (first other : Option X) (x : X) → first ≡ None → other ≡ Some x
    → or_else first other ≡ Some x
or_then None other x none is = is
or_then (Some y) other x none is = absurd cc

if_fails : (b : Bool) (n : ℕ) → b ≡ false → (if b then Some n else None) ≡ None
if_fails true n is = absurd cc
if_fails false n is = refl

if_passes : (b : Bool) (n : ℕ) → b ≡ true → (if b then Some n else None) ≡ Some n
if_passes true n is = refl
if_passes false n is = absurd cc

pub none_more : (test : ℕ → Bool) (n : ℕ) → least_below test n ≡ None → test n ≡ false
    → least_below test (suc n) ≡ None
none_more test n none fails =
    or_none (least_below test n) (if test n then Some n else None) none (if_fails (test n) n fails)

-- Let k be the lowest number that passes the test. If k is n, or a search below n finds k, then a
-- search below n + 1 finds k.
found_at : (test : ℕ → Bool) (k n : ℕ) → (k ≡ n) ⊎ (least_below test n ≡ Some k)
    → least_below test k ≡ None → test k ≡ true → least_below test (suc n) ≡ Some k
found_at test k n (inl same) none passes =
    subst (λ (m : ℕ). least_below test (suc m) ≡ Some k) same
    (or_then (least_below test k) (if test k then Some k else None) k none
    (if_passes (test k) k passes))
found_at test k n (inr found) none passes =
    or_some (least_below test n) (if test n then Some n else None) k found

last_or_before : (k n : ℕ) → k < suc n → (k ≡ n) ⊎ (k < n)
last_or_before k n below = by (cases_eq k n)
  where
    by : (k ≡ n) ⊎ (k ≡ n → ⊥) → (k ≡ n) ⊎ (k < n)
    by (inl same) = inl same
    by (inr apart) = inr (omega (arith, below, apart))

pub found_least : (test : ℕ → Bool) (k n : ℕ) → least_below test k ≡ None → test k ≡ true → k < n
    → least_below test n ≡ Some k
found_least test k zero none passes below = absurd (omega (arith, below))
found_least test k (suc n) none passes below =
    found_at test k n (found_or_last (last_or_before k n below) (found_least test k n none passes))
    none passes
  where
    found_or_last : (k ≡ n) ⊎ (k < n) → (k < n → least_below test n ≡ Some k)
        → (k ≡ n) ⊎ (least_below test n ≡ Some k)
    found_or_last (inl same) found = inl same
    found_or_last (inr before) found = inr (found before)

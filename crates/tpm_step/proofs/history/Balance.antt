-- Failed tries, power cycles and the passing of time satisfy the inequality of `Pays`. After each
-- of them, no decrement of failedTries is overdue (`IsForgiving`).
use Rattle.std.proofs.Common.{arith, ◌≡◌, ◌≢◌, ◌⊎◌, ℕ, ◌+◌, ◌*◌, ◌/◌, ◌%◌, ◌-◌, ◌<◌, ◌≤◌, Bool, true, false, cond, refl, sym, ap, ◌∙◌, inl, inr}
use Rattle.std.specs.Prelude.{not, ◌&&◌, ◌==◌, nat_le}
use Rattle.std.proofs.lemmas.Bool.{cases_eq, cases_lt, cond_both, leb-false, ne_eqb}
use Rattle.std.proofs.lemmas.Nat.{mod_below, mul-le}
use Rattle.std.proofs.Math.Nat.{div-add-mod, mul-add, mul-zero}
use Rattle.tpm_lockout.specs.Lockout.{LockoutState, milliseconds, times_restarted}
use Rattle.tpm_lockout.specs.Recovery.{closed_by_failure, lockout_ticked, opened_after, opens_by_time, with_closed}
use Rattle.tpm_lockout.specs.Tries.{after_failure, counts_tries, forgiven_after, is_locked, tries_left}
use Rattle.tpm_types_common.specs.declared.refused.Counted.{Counted}
use Rattle.tpm_types_common.specs.declared.refused.Counted.TheVariants as counted
use Rattle.tpm_step.specs.step.Step.{lockout_counted}
use Rattle.tpm_step.specs.history.Potential.{IsForgiving, Pays, credit, period}
use Rattle.tpm_step.specs.history.Tries.{is_try}

-- ---- changes that leave the failed tries unchanged

-- Two lockout states have the same recoveryTime, maxTries and failedTries, and the same amount of
-- time counts towards the next decrement of failedTries.
abbrev pub SameTries : LockoutState → LockoutState → Type 0
SameTries old new =
    (new.fields.recovery_time ≡ old.fields.recovery_time)
    × (new.fields.max_tries ≡ old.fields.max_tries)
    × (new.fields.failed_tries ≡ old.fields.failed_tries)
    × (new.forgiving_time ≡ old.forgiving_time)

-- disabling or enabling lockoutAuth changes no other field
pub closed_same : (old new : LockoutState) (closed : Bool) → new ≡ with_closed closed old
    → SameTries old new
closed_same old new closed is = (
  ap (λ (s : LockoutState). s.fields.recovery_time) is,
  ap (λ (s : LockoutState). s.fields.max_tries) is,
  ap (λ (s : LockoutState). s.fields.failed_tries) is,
  ap (λ (s : LockoutState). s.forgiving_time) is,
)

opened_same : (elapsed : ℕ) (s : LockoutState) → SameTries s (opened_after elapsed s)
unfolding opened_after
opened_same elapsed s =
    cond_both (opens_by_time s.fields) _ _ (SameTries s)
    (λ _. cond_both (nat_le (milliseconds s.fields.lockout_recovery) (s.closed_time + elapsed)) _ _
    (SameTries s) (λ _. (refl, refl, refl, refl)) (λ _. (refl, refl, refl, refl)))
    (λ _. (refl, refl, refl, refl))

closing_same : (s : LockoutState) → SameTries s (closed_by_failure s)
closing_same s = cond_both s.fields.closed _ _ (SameTries s) (λ _. (refl, refl, refl, refl))
    (λ _. (refl, refl, refl, refl))

-- ---- each step satisfies `Pays`

pub same_pays : (old new : LockoutState) → SameTries old new → Pays old new 0 0
same_pays old new same = record {
  recovery_time = same.0;
  max_tries = same.1;
  balance = rw (same.2, same.3) (omega arith);
  within = inl refl;
}

-- Forgiving one failed try every n milliseconds satisfies the inequality of `Pays`.
forgiven : (n tries passed elapsed : ℕ)
    → n * tries + cond ((tries - (passed + elapsed) / n) == 0) 0
    (cond ((tries - (passed + elapsed) / n) == 0) 0 ((passed + elapsed) % n))
    ≤ n * (tries - (passed + elapsed) / n) + cond (tries == 0) 0 passed + elapsed
forgiven n tries passed elapsed = by (cases_eq tries 0) (cases_lt (time / n) tries)
  where
    time : ℕ
    time = passed + elapsed

    left : ℕ
    left = tries - time / n

    by : (tries ≡ 0) ⊎ (tries ≡ 0 → ⊥) → (time / n < tries) ⊎ (tries ≤ time / n)
        → n * tries + cond (left == 0) 0 (cond (left == 0) 0 (time % n))
        ≤ n * left + cond (tries == 0) 0 passed + elapsed
    by (inl none) few =
        let gone : left ≡ 0 = omega (arith, none) in
        rw (gone, none) (omega (arith, mul-zero n))
    by (inr some) (inl below) =
        let whole = mul-add n left (time / n) in
        let same : left + time / n ≡ tries = omega (arith, below) in
        let split = div-add-mod time n in
        rw (ne_eqb left 0 (λ gone. omega (arith, gone, below)), ne_eqb tries 0 some)
        (omega (arith, split, rw same at whole))
    by (inr some) (inr above) =
        let split = div-add-mod time n in
        let most : n * tries ≤ n * (time / n) = mul-le n tries n (time / n) (omega arith) above in
        let gone : left ≡ 0 = omega (arith, above) in
        rw (gone, ne_eqb tries 0 some) (omega (arith, split, most))

forgiven_pays : (elapsed : ℕ) (s : LockoutState) → s.fields.recovery_time ≢ 0
    → Pays s (forgiven_after elapsed s) 0 elapsed
unfolding forgiven_after
forgiven_pays elapsed s counts =
    rw (ne_eqb s.fields.recovery_time 0 counts)
    (record {
      recovery_time = refl;
      max_tries = refl;
      balance = omega (arith, forgiven (period s) s.fields.failed_tries s.forgiving_time elapsed);
      within = inl refl;
    })

then_same : (a b c : LockoutState) (elapsed : ℕ) → Pays a b 0 elapsed → SameTries b c
    → Pays a c 0 elapsed
then_same a b c elapsed pays same = record {
  recovery_time = same.0 ∙ pays.recovery_time;
  max_tries = same.1 ∙ pays.max_tries;
  balance = rw (same.2, same.3) pays.balance;
  within = inl refl;
}

pub tick_pays : (s : LockoutState) (elapsed : ℕ) → s.fields.recovery_time ≢ 0
    → Pays s (lockout_ticked elapsed s) 0 elapsed
tick_pays s elapsed counts =
    let mid = forgiven_after elapsed s in
    then_same s mid (opened_after elapsed mid) elapsed (forgiven_pays elapsed s counts)
    (opened_same elapsed mid)

pub cycle_pays : (s : LockoutState) → Pays s (times_restarted s) 0 0
cycle_pays s = record {
  recovery_time = refl;
  max_tries = refl;
  balance = cond_both (s.fields.failed_tries == 0) 0 0
      (λ due. period s * s.fields.failed_tries + period s * 0 + due
      ≤ period s * s.fields.failed_tries + credit s + 0) (λ _. omega arith) (λ _. omega arith);
  within = inl refl;
}

-- A counted failed try satisfies `Pays`, if the device is not in lockout.
failure_pays : (s : LockoutState) → s.fields.recovery_time ≢ 0 → is_locked s.fields ≡ false
    → Pays s (after_failure s) 1 0
unfolding after_failure
failure_pays s counts unlocked =
    let some = ne_eqb s.fields.recovery_time 0 counts in
    let below : nat_le s.fields.max_tries s.fields.failed_tries ≡ false = rw some at unlocked in
    let few = leb-false s.fields.max_tries s.fields.failed_tries below in
    let test : (counts_tries s.fields && not (is_locked s.fields)) ≡ true = rw (some, below) refl in
    let new : ((s.fields.failed_tries + 1) == 0) ≡ false =
    ne_eqb (s.fields.failed_tries + 1) 0 (λ none. omega (arith, none)) in
    rw test (record {
      recovery_time = refl;
      max_tries = refl;
      balance = rw new (omega (arith, mul-add (period s) s.fields.failed_tries 1));
      within = inr (omega (arith, few));
    })

-- the effect of a refusal satisfies `Pays`
pub refusal_pays : (s : LockoutState) (c : Counted) → s.fields.recovery_time ≢ 0
    → (is_try c ≡ true → is_locked s.fields ≡ false)
    → Pays s (lockout_counted c s) (cond (is_try c) 1 0) 0
refusal_pays s counted.None counts unlocked = same_pays s s (refl, refl, refl, refl)
refusal_pays s counted.Try counts unlocked = failure_pays s counts (unlocked refl)
refusal_pays s counted.Lockout counts unlocked = same_pays s (closed_by_failure s) (closing_same s)

-- ---- a sequence of events

-- Either no try has failed since this state, or this inequality holds, with recoveryTime in
-- milliseconds: recoveryTime * (failedTries + `failed`) ≤ recoveryTime * maxTries + the
-- milliseconds credited in this state + `elapsed`.
abbrev pub IsPaid : LockoutState → (failed elapsed : ℕ) → Type 0
IsPaid s failed elapsed =
    (failed ≡ 0)
    ⊎ (period s * s.fields.failed_tries + period s * failed
    ≤ period s * s.fields.max_tries + credit s + elapsed)

-- if the first step satisfies `Pays`, and the later steps satisfy the bound on failed tries, then
-- all steps together satisfy the bound
pub pays_more : (a b : LockoutState) (one failed all first elapsed whole : ℕ) → one + failed ≡ all
    → first + elapsed ≡ whole → Pays a b one first → IsPaid b failed elapsed → IsPaid a all whole
pays_more a b one failed all first elapsed whole counted passed pays rest =
    by pays.within (rw (pays.recovery_time, pays.max_tries) at rest)
  where
    n : ℕ
    n = period a

    sum : n * all ≡ n * one + n * failed
    sum = ap (λ k. n * k) (sym counted) ∙ mul-add n one failed

    by : (one ≡ 0) ⊎ (b.fields.failed_tries ≤ a.fields.max_tries)
        → (failed ≡ 0)
        ⊎ (n * b.fields.failed_tries + n * failed ≤ n * a.fields.max_tries + credit b + elapsed)
        → IsPaid a all whole
    by few (inr paid) = inr (omega (arith, pays.balance, paid, sum, passed))
    by (inl none) (inl nought) = inl (omega (arith, none, nought, counted))
    by (inr below) (inl nought) =
        let most : n * b.fields.failed_tries ≤ n * a.fields.max_tries =
        mul-le n b.fields.failed_tries n a.fields.max_tries (omega arith) below in
        let zero : n * failed ≡ 0 = ap (λ k. n * k) nought ∙ mul-zero n in
        inr (omega (arith, pays.balance, most, sum, zero, passed))

-- The bound on failed tries follows from the inequality of `Pays`.
few_of : (n tries failed most passed elapsed : ℕ) → 0 < n → passed < n
    → n * tries + n * failed ≤ n * most + cond (tries == 0) 0 passed + elapsed
    → failed ≤ most + elapsed / n
few_of n tries failed most passed elapsed some below paid =
    by (cases_lt (most + elapsed / n) failed)
  where
    q : ℕ
    q = elapsed / n

    under : (tries ≡ 0) ⊎ (tries ≡ 0 → ⊥) → n * failed ≤ n * most + elapsed
    under (inl none) =
        let at : n * 0 + n * failed ≤ n * most + 0 + elapsed = rw none at paid in
        omega (arith, at, mul-zero n)
    under (inr there) =
        let at : n * tries + n * failed ≤ n * most + passed + elapsed =
        rw (ne_eqb tries 0 there) at paid in
        let first : n * 1 ≤ n * tries = mul-le n 1 n tries (omega arith) (omega (arith, there)) in
        omega (arith, at, first, below)

    by : (most + q < failed) ⊎ (failed ≤ most + q) → failed ≤ most + q
    by (inr few) = few
    by (inl many) =
        let over : n * (most + q + 1) ≤ n * failed =
        mul-le n (most + q + 1) n failed (omega arith) (omega (arith, many)) in
        absurd
        (omega (
          arith,
          over,
          mul-add n (most + q) 1,
          mul-add n most q,
          div-add-mod elapsed n,
          mod_below elapsed n some,
          under (cases_eq tries 0),
        ))

pub few_fail : (s : LockoutState) (failed elapsed : ℕ) → s.fields.recovery_time ≢ 0 → IsForgiving s
    → IsPaid s failed elapsed → failed ≤ s.fields.max_tries + elapsed / period s
few_fail s failed elapsed counts is (inl none) = omega (arith, none)
few_fail s failed elapsed counts is (inr paid) =
    few_of (period s) s.fields.failed_tries failed s.fields.max_tries s.forgiving_time elapsed
    (omega (arith, counts)) (is counts) paid

-- ---- the time towards the next decrement of failedTries

pub same_forgives : (old new : LockoutState) → SameTries old new → IsForgiving old → IsForgiving new
same_forgives old new same is counts = rw (same.3, same.0) (is (λ none. counts (same.0 ∙ none)))

forgiven_recovery : (elapsed : ℕ) (s : LockoutState)
    → (forgiven_after elapsed s).fields.recovery_time ≡ s.fields.recovery_time
unfolding forgiven_after
forgiven_recovery elapsed s =
    cond_both (counts_tries s.fields) _ _
    (λ (t : LockoutState). t.fields.recovery_time ≡ s.fields.recovery_time) (λ _. refl) (λ _. refl)

forgiven_below : (elapsed : ℕ) (s : LockoutState) → s.fields.recovery_time ≢ 0
    → (forgiven_after elapsed s).forgiving_time < period s
unfolding forgiven_after
forgiven_below elapsed s counts =
    let some : 0 < period s = omega (arith, counts) in
    let time = s.forgiving_time + elapsed in
    rw (ne_eqb s.fields.recovery_time 0 counts)
    (cond_both (tries_left s.fields time == 0) 0 (time % period s) (λ t. t < period s) (λ _. some)
    (λ _. mod_below time (period s) some))

pub tick_forgives : (s : LockoutState) (elapsed : ℕ) → IsForgiving (lockout_ticked elapsed s)
tick_forgives s elapsed =
    let mid = forgiven_after elapsed s in
    same_forgives mid (opened_after elapsed mid) (opened_same elapsed mid)
    (λ counts. rw (forgiven_recovery elapsed s)
    (forgiven_below elapsed s (λ none. counts (forgiven_recovery elapsed s ∙ none))))

failure_forgives : (s : LockoutState) → IsForgiving s → IsForgiving (after_failure s)
unfolding after_failure
failure_forgives s is =
    cond_both (counts_tries s.fields && not (is_locked s.fields)) _ _ IsForgiving
    (λ _. λ counts. omega (arith, counts))
    (λ _. is)

pub refusal_forgives : (s : LockoutState) (c : Counted) → IsForgiving s
    → IsForgiving (lockout_counted c s)
refusal_forgives s counted.None is = is
refusal_forgives s counted.Try is = failure_forgives s is
refusal_forgives s counted.Lockout is = same_forgives s (closed_by_failure s) (closing_same s) is

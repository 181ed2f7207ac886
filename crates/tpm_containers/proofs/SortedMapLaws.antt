-- Entries in ascending order of key form a map. After a value is inserted, removed or changed, or
-- after only some values are kept, each key has the right value, and the keys still ascend. The
-- number of keys changes accordingly. `key_from` finds the lowest key at or above a given key.
use Rattle.std.proofs.Common.{◌≡◌, ◌≢◌, ℕ, ◌<◌, ◌≤◌, ◌+◌, ◌⊎◌, Bool, false, true, cond, eqb, leb, [], ◌∷◌, length, Option, Some, None, is_some, refl, sym, ap, subst, ◌∙◌, arith, inl, inr}
use Rattle.std.proofs.lemmas.Bool.{cases_eq, cases_lt, cond_both, cond-true, cond-false, eq-eqb, ne_eqb, eqb-true, leb-true, leb-false}
use Rattle.tpm_containers.specs.SortedMap.{AllAbove, AreEach, Ascends, Entries, at_key, changed_key, kept_entries, key_from, with_key, without_key}
use Rattle.tpm_containers.specs.IsSortedMap.{IsSortedMap}

module _ {X : Type 0} where
  -- ---- the first entry

  -- the first entry is found by its own key
  at_first : (e : ℕ × X) (es : Entries X) (key : ℕ) → e.0 ≡ key → at_key (e ∷ es) key ≡ Some e.1
  at_first e es key same = cond-true _ _ _ (eq-eqb e.0 key same)

  -- a search for another key skips the first entry
  at_rest : (e : ℕ × X) (es : Entries X) (key : ℕ) → e.0 ≢ key → at_key (e ∷ es) key ≡ at_key es key
  at_rest e es key apart = cond-false _ _ _ (ne_eqb e.0 key apart)

  -- a key that does not exist is neither the first key nor among the rest
  first_apart : (e : ℕ × X) (es : Entries X) (key : ℕ) → at_key (e ∷ es) key ≡ None
      → (e.0 ≢ key) × (at_key es key ≡ None)
  first_apart e es key none =
      let apart : e.0 ≢ key = λ same. let some = at_first e es key same in cc in
      (apart, sym (at_rest e es key apart) ∙ none)

  -- ---- the order

  above_lower : (low high : ℕ) (es : Entries X) → low < high → AllAbove high es → AllAbove low es
  above_lower low high [] lower above = tt
  above_lower low high (e ∷ es) lower above = (omega arith, above_lower low high es lower above.1)

  above_absent : (es : Entries X) (key : ℕ) → AllAbove key es → at_key es key ≡ None
  above_absent [] key above = refl
  above_absent (e ∷ es) key above =
      at_rest e es key (λ same. omega arith) ∙ above_absent es key above.1

  put_above : (low : ℕ) (es : Entries X) (key : ℕ) (x : X) → low < key → AllAbove low es
      → AllAbove low (with_key es key x)
  put_above low [] key x lower above = (lower, tt)
  put_above low (e ∷ es) key x lower above =
      cond_both (leb key e.0) _ _ (AllAbove low)
      (λ _. (lower, above))
      (λ _. (above.0, put_above low es key x lower above.1))

  removed_above : (low : ℕ) (es : Entries X) (key : ℕ) → AllAbove low es
      → AllAbove low (without_key es key)
  removed_above low [] key above = tt
  removed_above low (e ∷ es) key above =
      cond_both (eqb e.0 key) _ _ (AllAbove low)
      (λ _. above.1)
      (λ _. (above.0, removed_above low es key above.1))

  changed_above : (low : ℕ) (es : Entries X) (key : ℕ) (x : X) → AllAbove low es
      → AllAbove low (changed_key es key x)
  changed_above low [] key x above = tt
  changed_above low (e ∷ es) key x above =
      cond_both (eqb e.0 key) _ _ (AllAbove low)
      (λ _. above)
      (λ _. (above.0, changed_above low es key x above.1))

  -- ---- inserting a value under a free key

  put_found : (es : Entries X) (key : ℕ) (x : X) → at_key es key ≡ None
      → at_key (with_key es key x) key ≡ Some x
  put_found [] key x none = at_first (key, x) [] key refl
  put_found (e ∷ es) key x none =
      let first = first_apart e es key none in
      cond_both (leb key e.0) _ _ (λ (l : Entries X). at_key l key ≡ Some x)
      (λ _. at_first (key, x) (e ∷ es) key refl)
      (λ _. at_rest e (with_key es key x) key first.0 ∙ put_found es key x first.1)

  put_others : (es : Entries X) (key : ℕ) (x : X) (other : ℕ) → other ≢ key
      → at_key (with_key es key x) other ≡ at_key es other
  put_others [] key x other apart = at_rest (key, x) [] other (λ same. apart (sym same))
  put_others (e ∷ es) key x other apart =
      cond_both (leb key e.0) _ _ (λ (l : Entries X). at_key l other ≡ at_key (e ∷ es) other)
      (λ _. at_rest (key, x) (e ∷ es) other (λ same. apart (sym same)))
      (λ _. ap (λ (o : Option X). cond (eqb e.0 other) (Some e.1) o)
      (put_others es key x other apart))

  pub put_ascends : (es : Entries X) (key : ℕ) (x : X) → Ascends es → at_key es key ≡ None
      → Ascends (with_key es key x)
  put_ascends [] key x up none = (tt, tt)
  put_ascends (e ∷ es) key x up none =
      let first = first_apart e es key none in
      cond_both (leb key e.0) _ _ Ascends
      (λ is. let below : key < e.0 =
      omega (arith, leb-true key e.0 is, first.0) in
      ((below, above_lower key e.0 es below up.0), up))
      (λ is. (
        put_above e.0 es key x (leb-false key e.0 is) up.0,
        put_ascends es key x up.1 first.1,
      ))

  pub put_length : (es : Entries X) (key : ℕ) (x : X) → length (with_key es key x) ≡ length es + 1
  put_length [] key x = refl
  put_length (e ∷ es) key x =
      cond_both (leb key e.0) _ _ (λ (l : Entries X). length l ≡ length (e ∷ es) + 1)
      (λ _. omega arith)
      (λ _. omega (arith, put_length es key x))

  -- ---- removing a key

  removed_gone : (es : Entries X) (key : ℕ) → Ascends es → at_key (without_key es key) key ≡ None
  removed_gone [] key up = refl
  removed_gone (e ∷ es) key up =
      cond_both (eqb e.0 key) _ _ (λ (l : Entries X). at_key l key ≡ None)
      (λ is. above_absent es key (subst (λ low. AllAbove low es) (eqb-true e.0 key is) up.0))
      (λ is. cond-false _ _ _ is ∙ removed_gone es key up.1)

  removed_others : (es : Entries X) (key other : ℕ) → other ≢ key
      → at_key (without_key es key) other ≡ at_key es other
  removed_others [] key other apart = refl
  removed_others (e ∷ es) key other apart =
      cond_both (eqb e.0 key) _ _ (λ (l : Entries X). at_key l other ≡ at_key (e ∷ es) other)
      (λ is. sym (at_rest e es other (λ same. apart (sym same ∙ eqb-true e.0 key is))))
      (λ _. ap (λ (o : Option X). cond (eqb e.0 other) (Some e.1) o)
      (removed_others es key other apart))

  pub removed_absent : (es : Entries X) (key : ℕ) → at_key es key ≡ None → without_key es key ≡ es
  removed_absent [] key none = refl
  removed_absent (e ∷ es) key none =
      let first = first_apart e es key none in
      rw (ne_eqb e.0 key first.0) (ap (λ (l : Entries X). e ∷ l) (removed_absent es key first.1))

  pub removed_ascends : (es : Entries X) (key : ℕ) → Ascends es → Ascends (without_key es key)
  removed_ascends [] key up = tt
  removed_ascends (e ∷ es) key up =
      cond_both (eqb e.0 key) _ _ Ascends
      (λ _. up.1)
      (λ _. (removed_above e.0 es key up.0, removed_ascends es key up.1))

  pub removed_length : (es : Entries X) (key : ℕ) (x : X) → at_key es key ≡ Some x
      → length (without_key es key) + 1 ≡ length es
  removed_length [] key x there = absurd cc
  removed_length (e ∷ es) key x there =
      cond_both (eqb e.0 key) _ _ (λ (l : Entries X). length l + 1 ≡ length (e ∷ es))
      (λ _. omega arith)
      (λ is. let more = removed_length es key x (sym (cond-false _ _ _ is) ∙ there) in omega
      (arith, more))

  pub removed_few : (es : Entries X) (key : ℕ) → length (without_key es key) ≤ length es
  removed_few [] key = omega arith
  removed_few (e ∷ es) key =
      cond_both (eqb e.0 key) _ _ (λ (l : Entries X). length l ≤ length (e ∷ es))
      (λ _. omega arith)
      (λ _. omega (arith, removed_few es key))

  -- ---- properties of each value of a map

  pub put_each : (Is : ℕ → X → Type 0) (es : Entries X) (key : ℕ) (x : X) → AreEach Is es → Is key x
      → AreEach Is (with_key es key x)
  put_each Is [] key x each is = (is, tt)
  put_each Is (e ∷ es) key x each is =
      cond_both (leb key e.0) _ _ (AreEach Is)
      (λ _. (is, each))
      (λ _. (each.0, put_each Is es key x each.1 is))

  pub removed_each : (Is : ℕ → X → Type 0) (es : Entries X) (key : ℕ) → AreEach Is es
      → AreEach Is (without_key es key)
  removed_each Is [] key each = tt
  removed_each Is (e ∷ es) key each =
      cond_both (eqb e.0 key) _ _ (AreEach Is)
      (λ _. each.1)
      (λ _. (each.0, removed_each Is es key each.1))

  -- ---- changing a value

  changed_found : (es : Entries X) (key : ℕ) (old x : X) → at_key es key ≡ Some old
      → at_key (changed_key es key x) key ≡ Some x
  changed_found [] key old x there = absurd cc
  changed_found (e ∷ es) key old x there =
      cond_both (eqb e.0 key) _ _ (λ (l : Entries X). at_key l key ≡ Some x)
      (λ is. cond-true _ _ _ is)
      (λ is. cond-false _ _ _ is ∙ changed_found es key old x (sym (cond-false _ _ _ is) ∙ there))

  changed_others : (es : Entries X) (key : ℕ) (x : X) (other : ℕ) → other ≢ key
      → at_key (changed_key es key x) other ≡ at_key es other
  changed_others [] key x other apart = refl
  changed_others (e ∷ es) key x other apart =
      cond_both (eqb e.0 key) _ _ (λ (l : Entries X). at_key l other ≡ at_key (e ∷ es) other)
      (λ is.
      let passed : e.0 ≢ other = λ same. apart (sym same ∙ eqb-true e.0 key is) in
      at_rest (e.0, x) es other passed ∙ sym (at_rest e es other passed))
      (λ _. ap (λ (o : Option X). cond (eqb e.0 other) (Some e.1) o)
      (changed_others es key x other apart))

  changed_absent : (es : Entries X) (key : ℕ) (x : X) → at_key es key ≡ None
      → changed_key es key x ≡ es
  changed_absent [] key x none = refl
  changed_absent (e ∷ es) key x none =
      let first = first_apart e es key none in
      rw (ne_eqb e.0 key first.0) (ap (λ (l : Entries X). e ∷ l) (changed_absent es key x first.1))

  pub changed_ascends : (es : Entries X) (key : ℕ) (x : X) → Ascends es
      → Ascends (changed_key es key x)
  changed_ascends [] key x up = tt
  changed_ascends (e ∷ es) key x up =
      cond_both (eqb e.0 key) _ _ Ascends
      (λ _. up)
      (λ _. (changed_above e.0 es key x up.0, changed_ascends es key x up.1))

  pub changed_length : (es : Entries X) (key : ℕ) (x : X)
      → length (changed_key es key x) ≡ length es
  changed_length [] key x = refl
  changed_length (e ∷ es) key x =
      cond_both (eqb e.0 key) _ _ (λ (l : Entries X). length l ≡ length (e ∷ es))
      (λ _. refl)
      (λ _. omega (arith, changed_length es key x))

  -- ---- keeping some entries

  pub kept_each : (Is : ℕ → X → Type 0) (stays : X → Bool) (es : Entries X) → AreEach Is es
      → AreEach Is (kept_entries stays es)
  kept_each Is stays [] each = tt
  kept_each Is stays (e ∷ es) each =
      cond_both (stays e.1) _ _ (AreEach Is)
      (λ _. (each.0, kept_each Is stays es each.1))
      (λ _. kept_each Is stays es each.1)

  kept_above : (low : ℕ) (stays : X → Bool) (es : Entries X) → AllAbove low es
      → AllAbove low (kept_entries stays es)
  kept_above low stays [] above = tt
  kept_above low stays (e ∷ es) above =
      cond_both (stays e.1) _ _ (AllAbove low)
      (λ _. (above.0, kept_above low stays es above.1))
      (λ _. kept_above low stays es above.1)

  pub kept_ascends : (stays : X → Bool) (es : Entries X) → Ascends es
      → Ascends (kept_entries stays es)
  kept_ascends stays [] up = tt
  kept_ascends stays (e ∷ es) up =
      cond_both (stays e.1) _ _ Ascends
      (λ _. (kept_above e.0 stays es up.0, kept_ascends stays es up.1))
      (λ _. kept_ascends stays es up.1)

  pub kept_few : (stays : X → Bool) (es : Entries X) → length (kept_entries stays es) ≤ length es
  kept_few stays [] = omega arith
  kept_few stays (e ∷ es) =
      cond_both (stays e.1) _ _ (λ (l : Entries X). length l ≤ length (e ∷ es))
      (λ _. omega (arith, kept_few stays es))
      (λ _. omega (arith, kept_few stays es))

  kept_absent : (stays : X → Bool) (es : Entries X) (key : ℕ) → at_key es key ≡ None
      → at_key (kept_entries stays es) key ≡ None
  kept_absent stays [] key none = refl
  kept_absent stays (e ∷ es) key none =
      let first = first_apart e es key none in
      let rest = kept_absent stays es key first.1 in
      cond_both (stays e.1) _ _ (λ (l : Entries X). at_key l key ≡ None)
      (λ _. at_rest e (kept_entries stays es) key first.0 ∙ rest)
      (λ _. rest)

  kept_found : (stays : X → Bool) (es : Entries X) (key : ℕ) (x : X) → at_key es key ≡ Some x
      → stays x ≡ true → at_key (kept_entries stays es) key ≡ Some x
  kept_found stays [] key x there good = absurd cc
  kept_found stays (e ∷ es) key x there good =
      elim (cases_eq e.0 key) [
        | inl same ↦
            let found = sym (at_first e es key same) ∙ there in
            let is : e.1 ≡ x = cc in
            rw (ap stays is ∙ good) (at_first e (kept_entries stays es) key same ∙ found)
        | inr apart ↦
            let rest = kept_found stays es key x (sym (at_rest e es key apart) ∙ there) good in
            cond_both (stays e.1) _ _ (λ (l : Entries X). at_key l key ≡ Some x)
            (λ _. at_rest e (kept_entries stays es) key apart ∙ rest)
            (λ _. rest)
      ]

  kept_gone : (stays : X → Bool) (es : Entries X) (key : ℕ) (x : X) → Ascends es
      → at_key es key ≡ Some x → stays x ≡ false → at_key (kept_entries stays es) key ≡ None
  kept_gone stays [] key x up there bad = refl
  kept_gone stays (e ∷ es) key x up there bad =
      elim (cases_eq e.0 key) [
        | inl same ↦
            let found = sym (at_first e es key same) ∙ there in
            let is : e.1 ≡ x = cc in
            rw (ap stays is ∙ bad)
            (kept_absent stays es key
            (above_absent es key (subst (λ low. AllAbove low es) same up.0)))
        | inr apart ↦
            let rest = kept_gone stays es key x up.1 (sym (at_rest e es key apart) ∙ there) bad in
            cond_both (stays e.1) _ _ (λ (l : Entries X). at_key l key ≡ None)
            (λ _. at_rest e (kept_entries stays es) key apart ∙ rest)
            (λ _. rest)
      ]

  -- ---- the next key

  -- the lowest key that is at least `key` is the first key of the list, or is found in the rest
  from_first : (e : ℕ × X) (es : Entries X) (key : ℕ) (o : Option ℕ) → key_from (e ∷ es) key ≡ o
      → ((key ≤ e.0) × (Some e.0 ≡ o)) ⊎ ((e.0 < key) × (key_from es key ≡ o))
  from_first e es key o =
      cond_both (leb key e.0) _ _ (λ v. v ≡ o → ((key ≤ e.0) × (Some e.0 ≡ o))
      ⊎ ((e.0 < key) × (key_from es key ≡ o)))
      (λ is same. inl (leb-true key e.0 is, same))
      (λ is same. inr (leb-false key e.0 is, same))

  next_there : (es : Entries X) (key next : ℕ) → key_from es key ≡ Some next
      → is_some (at_key es next) ≡ true
  next_there [] key next is = absurd cc
  next_there (e ∷ es) key next is =
      elim (from_first e es key (Some next) is) [
        | inl f ↦ ap is_some (at_first e es next (let same = f.1 in cc))
        | inr f ↦ cond_both (eqb e.0 next) _ _ (λ o. is_some o ≡ true) (λ _. refl)
            (λ _. next_there es key next f.1)
      ]

  next_from : (es : Entries X) (key next : ℕ) → key_from es key ≡ Some next → key ≤ next
  next_from [] key next is = absurd cc
  next_from (e ∷ es) key next is =
      elim (from_first e es key (Some next) is) [
        | inl f ↦ let same : e.0 ≡ next = (let found = f.1 in cc) in omega (arith, f.0)
        | inr f ↦ next_from es key next f.1
      ]

  next_lowest : (es : Entries X) (key next other : ℕ) → Ascends es → key_from es key ≡ Some next
      → key ≤ other → other < next → at_key es other ≡ None
  next_lowest [] key next other up is from lower = refl
  next_lowest (e ∷ es) key next other up is from lower =
      elim (from_first e es key (Some next) is) [
        | inl f ↦
            let same : e.0 ≡ next = (let found = f.1 in cc) in
            let below : other < e.0 = omega arith in
            above_absent (e ∷ es) other (below, above_lower other e.0 es below up.0)
        | inr f ↦
            let passed = f.0 in
            at_rest e es other (λ same. omega arith)
            ∙ next_lowest es key next other up.1 f.1 from lower
      ]

  next_none : (es : Entries X) (key other : ℕ) → key_from es key ≡ None → key ≤ other
      → at_key es other ≡ None
  next_none [] key other is from = refl
  next_none (e ∷ es) key other is from =
      elim (from_first e es key None is) [
        | inl f ↦ let found = f.1 in absurd cc
        | inr f ↦
            let passed = f.0 in
            at_rest e es other (λ same. omega arith) ∙ next_none es key other f.1 from
      ]

  -- ---- maps in which each key has the same value

  abbrev SameFound : Entries X → Entries X → Type 0
  SameFound es fs = (key : ℕ) → at_key es key ≡ at_key fs key

  -- if each key has the same value in two maps, then the first key of one map is not below the
  -- first key of the other
  not_below : (e f : ℕ × X) (es fs : Entries X) → Ascends (f ∷ fs) → SameFound (e ∷ es) (f ∷ fs)
      → f.0 ≤ e.0
  not_below e f es fs up found =
      elim (cases_lt e.0 f.0) [
        | inl lower ↦
            let some = at_first e es e.0 refl in
            let none = above_absent (f ∷ fs) e.0 (lower, above_lower e.0 f.0 fs lower up.0) in
            let same = found e.0 in
            absurd cc
        | inr above ↦ above
      ]

  -- if each key has the same value in two maps, and their first keys are equal, then each key also
  -- has the same value in both maps without their first entries
  same_rest : (e f : ℕ × X) (es fs : Entries X) → e.0 ≡ f.0 → Ascends (e ∷ es) → Ascends (f ∷ fs)
      → SameFound (e ∷ es) (f ∷ fs) → SameFound es fs
  same_rest e f es fs one up vp found key =
      elim (cases_eq e.0 key) [
        | inl here ↦
            above_absent es key (subst (λ low. AllAbove low es) here up.0)
            ∙ sym (above_absent fs key (subst (λ low. AllAbove low fs) (sym one ∙ here) vp.0))
        | inr apart ↦
            sym (at_rest e es key apart) ∙ found key ∙ at_rest f fs key (λ here. apart (one ∙ here))
      ]

  same_entries : (es fs : Entries X) → Ascends es → Ascends fs → SameFound es fs → es ≡ fs
  same_entries [] [] up vp found = refl
  same_entries [] (f ∷ fs) up vp found =
      let some = at_first f fs f.0 refl in let none = found f.0 in absurd cc
  same_entries (e ∷ es) [] up vp found =
      let some = at_first e es e.0 refl in let none = found e.0 in absurd cc
  same_entries ((k, x) ∷ es) ((l, y) ∷ fs) up vp found =
      let low = not_below (k, x) (l, y) es fs vp found in
      let high = not_below (l, y) (k, x) fs es up (λ key. sym (found key)) in
      let one : k ≡ l = omega arith in
      let value : Some x ≡ Some y = sym (at_first (k, x) es k refl) ∙ found k
      ∙ at_first (l, y) fs k (sym one) in
      let rest = same_entries es fs up.1 vp.1 (same_rest (k, x) (l, y) es fs one up vp found) in
      cc

  pub is_map : IsSortedMap X
  is_map = record {
    put_found = put_found;
    put_others = put_others;
    put_ascends = put_ascends;
    put_length = put_length;
    removed_gone = removed_gone;
    removed_others = removed_others;
    removed_absent = removed_absent;
    removed_ascends = removed_ascends;
    removed_length = removed_length;
    removed_few = removed_few;
    changed_found = changed_found;
    changed_others = changed_others;
    changed_absent = changed_absent;
    changed_ascends = changed_ascends;
    changed_length = changed_length;
    kept_found = kept_found;
    kept_gone = kept_gone;
    kept_absent = kept_absent;
    kept_ascends = kept_ascends;
    kept_few = kept_few;
    next_there = next_there;
    next_from = next_from;
    next_lowest = next_lowest;
    next_none = next_none;
    same_entries = same_entries;
  }

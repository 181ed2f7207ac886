-- The code searches for the index of a key. Reading, writing, inserting or removing the entry at
-- this index reads, writes, inserts or removes the key's value.
use Rattle.std.proofs.Common.{◌≡◌, ℕ, zero, suc, ◌<◌, ◌≤◌, Bool, true, false, cond, [], ◌∷◌, ◌++◌, length, get_or, slice_set, Option, Some, None, IfSome, is_some, refl, sym, ap, subst, ◌∙◌, arith}
use Rattle.std.specs.Prelude.{nat_le, ◌==◌}
use Rattle.std.specs.List.{position, position_or_len, insert, remove}
use Rattle.std.proofs.lemmas.Bool.{eqb-true, ltb-false}
use Rattle.std.proofs.lemmas.List.Edits.{insert_end}
use Rattle.std.proofs.lemmas.List.Quantifiers.{position-Some}
use Rattle.std.proofs.lemmas.List.Recursion.{found_at, found_nowhere}
use Rattle.std.proofs.lemmas.List.Sums.{fails_before_first}
use Rattle.tpm_containers.specs.SortedMap.{Entries, at_key, changed_key, key_from, with_key, without_key}
use Rattle.tpm_containers.proofs.SortedMapLaws.{removed_absent}

not_found : {A : Type 0} (b : Bool) (x : A) → cond b (Some x) None ≡ None → b ≡ false
not_found true x e = absurd cc
not_found false x e = refl

module _ {X : Type 0} where
  -- whether an entry has this key
  abbrev has : ℕ → ℕ × X → Bool
  has key e = e.0 == key

  -- whether an entry's key is at least this key
  abbrev is_from : ℕ → ℕ × X → Bool
  is_from key e = nat_le key e.0

  -- if a search finds no entry that passes a test, then the entry at each index fails the test
  position-None : (test : ℕ × X → Bool) (es : Entries X) (d : ℕ × X) → position test es ≡ None
      → (k : ℕ) → k < length es → test (get_or es k d) ≡ false
  position-None test es d is k inside =
      let none : length es ≤ position_or_len test es =
      ltb-false _ _ (not_found _ (position_or_len test es) is) in
      fails_before_first test es k d (omega arith)

  -- ---- the value of a key

  pub at_key_position : (es : Entries X) (key i : ℕ) (d : ℕ × X)
      → position (λ e. e.0 == key) es ≡ Some i → at_key es key ≡ Some (get_or es i d).1
  at_key_position es key i d is =
      let p = position-Some (has key) es i d is in
      found_at (λ (l : Entries X). at_key l key) (has key) (λ e. Some e.1) None refl (λ _ _. refl)
      es i d p.0 p.2 p.1

  pub at_key_absent : (es : Entries X) (key : ℕ) → position (λ e. e.0 == key) es ≡ None
      → at_key es key ≡ None
  at_key_absent [] key is = refl
  at_key_absent (e ∷ es) key is =
      found_nowhere (λ (l : Entries X). at_key l key) (has key) (λ e. Some e.1) None
      refl (λ _ _. refl) (e ∷ es) e (position-None (has key) (e ∷ es) e is)

  pub at_key_there : (es : Entries X) (key : ℕ)
      → is_some (position (λ e. e.0 == key) es) ≡ is_some (at_key es key)
  at_key_there [] key = refl
  at_key_there (e ∷ es) key = by (position (has key) (e ∷ es)) refl
    where
      by : (o : Option ℕ) → position (has key) (e ∷ es) ≡ o
          → is_some o ≡ is_some (at_key (e ∷ es) key)
      by None is = sym (ap is_some (at_key_absent (e ∷ es) key is))
      by (Some i) is = sym (ap is_some (at_key_position (e ∷ es) key i e is))

  -- ---- the next key

  pub key_from_position : (es : Entries X) (key i : ℕ) (d : ℕ × X)
      → position (λ e. nat_le key e.0) es ≡ Some i → key_from es key ≡ Some (get_or es i d).0
  key_from_position es key i d is =
      let p = position-Some (is_from key) es i d is in
      found_at (λ (l : Entries X). key_from l key) (is_from key) (λ e. Some e.0) None
      refl (λ _ _. refl) es i d p.0 p.2 p.1

  pub key_from_none : (es : Entries X) (key : ℕ) → position (λ e. nat_le key e.0) es ≡ None
      → key_from es key ≡ None
  key_from_none [] key is = refl
  key_from_none (e ∷ es) key is =
      found_nowhere (λ (l : Entries X). key_from l key) (is_from key) (λ e. Some e.0) None
      refl (λ _ _. refl) (e ∷ es) e (position-None (is_from key) (e ∷ es) e is)

  -- ---- changes at the index of a key

  -- Index i is in the list, and the entry at this index is the first entry that passes a test.
  abbrev IsFirst : (ℕ × X → Bool) → Entries X → ℕ → ℕ × X → Type 0
  IsFirst test es i d =
      (i < length es) × (test (get_or es i d) ≡ true)
      × ((k : ℕ) → k < i → test (get_or es k d) ≡ false)

  -- If the first entry that passes a test is not at the start of a list, it is the first such entry
  -- in the rest of the list.
  first_rest : (test : ℕ × X → Bool) (e : ℕ × X) (es : Entries X) (i : ℕ) (d : ℕ × X)
      → IsFirst test (e ∷ es) (suc i) d → IsFirst test es i d
  first_rest test e es i d p =
      let inside = p.0 in
      (omega arith, p.1, λ k lower. p.2 (suc k) (omega arith))

  put_there : (es : Entries X) (key i : ℕ) (x : X) (d : ℕ × X) → IsFirst (is_from key) es i d
      → insert es i (key, x) ≡ with_key es key x
  put_there [] key i x d p = let inside = p.0 in absurd (omega arith)
  put_there (e ∷ es) key zero x d p = rw p.1 refl
  put_there (e ∷ es) key (suc i) x d p =
      rw (p.2 zero (omega arith))
      (ap (λ (l : Entries X). e ∷ l)
      (put_there es key i x d (first_rest (is_from key) e es i d p)))

  pub insert_position : (es : Entries X) (key i : ℕ) (x : X)
      → position (λ e. nat_le key e.0) es ≡ Some i → insert es i (key, x) ≡ with_key es key x
  insert_position es key i x is =
      put_there es key i x (key, x) (position-Some (is_from key) es i (key, x) is)

  put_behind : (es : Entries X) (key : ℕ) (x : X)
      → ((k : ℕ) → k < length es → is_from key (get_or es k (key, x)) ≡ false)
      → es ++ (key, x) ∷ [] ≡ with_key es key x
  put_behind [] key x below = refl
  put_behind (e ∷ es) key x below =
      rw (below zero (omega arith))
      (ap (λ (l : Entries X). e ∷ l)
      (put_behind es key x (λ k inside. below (suc k) (omega arith))))

  pub insert_none : (es : Entries X) (key : ℕ) (x : X) → position (λ e. nat_le key e.0) es ≡ None
      → insert es (length es) (key, x) ≡ with_key es key x
  insert_none es key x is =
      insert_end es (key, x) ∙ put_behind es key x (position-None (is_from key) es (key, x) is)

  remove_there : (es : Entries X) (key i : ℕ) (d : ℕ × X) → IsFirst (has key) es i d
      → remove es i ≡ without_key es key
  remove_there [] key i d p = let inside = p.0 in absurd (omega arith)
  remove_there (e ∷ es) key zero d p = rw p.1 refl
  remove_there (e ∷ es) key (suc i) d p =
      rw (p.2 zero (omega arith))
      (ap (λ (l : Entries X). e ∷ l)
      (remove_there es key i d (first_rest (has key) e es i d p)))

  pub remove_position : (es : Entries X) (key i : ℕ) → position (λ e. e.0 == key) es ≡ Some i
      → remove es i ≡ without_key es key
  remove_position [] key i is = absurd cc
  remove_position (e ∷ es) key i is =
      remove_there (e ∷ es) key i e (position-Some (has key) (e ∷ es) i e is)

  pub without_absent : (es : Entries X) (key : ℕ) → position (λ e. e.0 == key) es ≡ None
      → without_key es key ≡ es
  without_absent es key is = removed_absent es key (at_key_absent es key is)

  set_there : (es : Entries X) (key i : ℕ) (x : X) (d : ℕ × X) → IsFirst (has key) es i d
      → slice_set es i (key, x) ≡ changed_key es key x
  set_there [] key i x d p = let inside = p.0 in absurd (omega arith)
  set_there (e ∷ es) key zero x d p =
      rw p.1 (ap (λ (k : ℕ). (k, x) ∷ es) (sym (eqb-true e.0 key p.1)))
  set_there (e ∷ es) key (suc i) x d p =
      rw (p.2 zero (omega arith))
      (ap (λ (l : Entries X). e ∷ l) (set_there es key i x d (first_rest (has key) e es i d p)))

  set_position : (es : Entries X) (key i : ℕ) (x : X) → position (λ e. e.0 == key) es ≡ Some i
      → slice_set es i (key, x) ≡ changed_key es key x
  set_position es key i x is =
      set_there es key i x (key, x) (position-Some (has key) es i (key, x) is)

  -- ---- the entry at the index of a key

  -- the entry at the index of a key contains the key's value
  pub read_where : (es : Entries X) (key : ℕ) (o : Option ℕ) → o ≡ position (λ e. e.0 == key) es
      → IfSome o (λ i. (e : ℕ × X) → get_or es i e ≡ e → at_key es key ≡ Some e.1)
  read_where es key None is = tt
  read_where es key (Some i) is = λ e read. at_key_position es key i e (sym is)
      ∙ ap (λ (p : ℕ × X). Some p.1) read

  -- writing at the index of a key changes the key's value
  pub written_where : (es : Entries X) (key : ℕ) (o : Option ℕ) → o ≡ position (λ e. e.0 == key) es
      → IfSome o (λ i. (e : ℕ × X) (x : X) → get_or es i e ≡ e
      → slice_set es i (e.0, x) ≡ changed_key es key x)
  written_where es key None is = tt
  written_where es key (Some i) is = λ e x read.
      let here : (get_or es i e).0 ≡ key =
      eqb-true _ key (position-Some (has key) es i e (sym is)).1 in
      let same : e.0 ≡ key = ap (λ (p : ℕ × X). p.0) (sym read) ∙ here in
      ap (λ (k : ℕ). slice_set es i (k, x)) same ∙ set_position es key i x (sym is)

  -- The entry e at index i belongs to this key: e contains the key's value, and writing index i
  -- changes that value.
  pub record Lent (es : Entries X) (key i : ℕ) (e : ℕ × X) : Type 0 where
    pub value : at_key es key ≡ Some e.1
    pub written : (x : X) → slice_set es i (e.0, x) ≡ changed_key es key x

  -- If an entry is borrowed (shared or mutably) from a container's slice at the index of a key, the
  -- entry belongs to that key.
  pub lent_at : (shown es : Entries X) (key i : ℕ) (e : ℕ × X) → shown ≡ es → e ≡ get_or es i e
      → ((e : ℕ × X) → get_or shown i e ≡ e → at_key shown key ≡ Some e.1)
      → ((e : ℕ × X) (x : X) → get_or shown i e ≡ e
      → slice_set shown i (e.0, x) ≡ changed_key shown key x) → Lent es key i e
  lent_at shown es key i e same read value written =
      let is : get_or shown i e ≡ e = ap (λ (l : Entries X). get_or l i e) same
      ∙ sym {b = get_or es i e} read in
      subst (λ (l : Entries X). Lent l key i e) same
      (record { value = value e is; written = λ x. written e x is })

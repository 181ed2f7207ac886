-- The items read so far, followed by the items still to be read, are the whole list.
use Rattle.std.proofs.Common.{◌≡◌, ℕ, suc, List, [], ◌∷◌, ◌++◌, map, Result, Ok, Err, refl, ap, sym, ◌∙◌, append_assoc}
use Rattle.std.proofs.lemmas.List.{map-append}
use Rattle.tpm_bytes.specs.Many.{many_at}
use Rattle.tpm_bytes.specs.Reading.{◌>>=◌}

-- the result of a read, with the previously read items prepended
abbrev pub behind : {A E : Type 0} → List A → Result (List A × List ℕ) E
    → Result (List A × List ℕ) E
behind front read = do
  others ← read
  Ok (front ++ others.0, others.1)

-- An item can be counted either as the last item already read or as the first item still to be
-- read: the whole list is the same in both cases.
pub moved : {A E : Type 0} (front : List A) (x : A) (read : Result (List A × List ℕ) E)
    → behind (front ++ x ∷ []) read ≡ behind front (read >>= λ others. Ok (x ∷ others.0, others.1))
moved front x (Err e) = refl
moved front x (Ok y) = ap (λ l. Ok (l, y.1)) (append_assoc front (x ∷ []) y.0)

pub map_push : {X Y : Type 0} (f : X → Y) (xs : List X) (x : X)
    → map f (xs ++ x ∷ []) ≡ map f xs ++ f x ∷ []
map_push f xs x = map-append f xs (x ∷ [])

-- Reading one more item does not change the whole list: the items already read, followed by the
-- items still to be read.
pub one_more : {X A E : Type 0} (view : X → A) (at : List ℕ → Result (A × List ℕ) E)
    (so_far : List X) (m n : ℕ) (x : X) (text rest : List ℕ) → m ≡ suc n
    → at text ≡ Ok (view x, rest) → behind (map view (so_far ++ x ∷ [])) (many_at at n rest)
    ≡ behind (map view so_far) (many_at at m text)
one_more {X} {A} {E} view at so_far m n x text rest e is =
    let front = map view so_far in
    ap (λ (l : List A). behind l (many_at at n rest)) (map_push view so_far x)
    ∙ moved front (view x) (many_at at n rest)
    ∙ ap (λ (r : Result (A × List ℕ) E). behind front
    (r >>= λ first. many_at at n first.1 >>= λ others. Ok (first.0 ∷ others.0, others.1)))
    (sym is)
    ∙ ap (λ k. behind front (many_at at k text)) (sym e)

-- If an item cannot be read, the read of the list fails with the fault of that item.
pub none_more : {A E : Type 0} (at : List ℕ → Result (A × List ℕ) E) (front : List A) (m n : ℕ)
    (fault : E) (text : List ℕ) → m ≡ suc n → at text ≡ Err fault
    → behind front (many_at at m text) ≡ Err fault
none_more {A} {E} at front m n fault text e is =
    ap (λ k. behind front (many_at at k text)) e
    ∙ ap (λ (r : Result (A × List ℕ) E). behind front
    (r >>= λ first. many_at at n first.1 >>= λ others. Ok (first.0 ∷ others.0, others.1))) is

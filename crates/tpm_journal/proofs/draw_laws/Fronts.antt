-- Facts about two lists with the same prefix.
use Rattle.std.proofs.Common.{◌≡◌, ◌≤◌, ◌+◌, ◌-◌, ◌∙◌, ℕ, zero, suc, List, [], ◌∷◌, ◌++◌, length, take, drop, refl, sym, ap, arith, inl, inr}
use Rattle.std.proofs.lemmas.Bool.{cases_lt}
use Rattle.std.proofs.lemmas.List.{drop-take, length-drop, length-take-le, take-append-le}

-- a prefix of a prefix is a prefix of the list
pub take_twice : {X : Type 0} (d n : ℕ) (xs : List X) → d ≤ n → take d (take n xs) ≡ take d xs
take_twice zero n xs le = refl
take_twice (suc d) zero xs le = absurd (let never : ⊥ = omega (arith, le) in never)
take_twice (suc d) (suc n) [] le = refl
take_twice (suc d) (suc n) (x ∷ xs) le = ap (λ l. x ∷ l) (take_twice d n xs (omega (arith, le)))

-- a prefix that is at least as long as the list is the whole list
take_whole : {X : Type 0} (n : ℕ) (xs : List X) → length xs ≤ n → take n xs ≡ xs
take_whole zero [] le = refl
take_whole zero (x ∷ xs) le = absurd (let never : ⊥ = omega (arith, le) in never)
take_whole (suc n) [] le = refl
take_whole (suc n) (x ∷ xs) le = ap (λ l. x ∷ l) (take_whole n xs (omega (arith, le)))

module _ {X : Type 0} (n : ℕ) (xs ys : List X) (same : take n ys ≡ take n xs) where
  -- if two lists have the same prefix, their shorter prefixes are also equal
  pub shorter : (d : ℕ) → d ≤ n → take d ys ≡ take d xs
  shorter d le = sym (take_twice d n ys le) ∙ ap (λ l. take d l) same ∙ take_twice d n xs le

  -- if two lists have the same prefix, they agree on each part of this prefix
  pub part : (skipped count : ℕ) → skipped + count ≤ n
      → take count (drop skipped ys) ≡ take count (drop skipped xs)
  part skipped count le =
      sym (drop-take skipped count ys) ∙ ap (λ l. drop skipped l) (shorter (skipped + count) le)
      ∙ drop-take skipped count xs

  -- two lists of the same length are equal if they have the same prefix, and this prefix is as long
  -- as one of them
  whole : length ys ≡ length xs → length xs ≤ n → ys ≡ xs
  whole as_long le = sym (take_whole n ys (omega (arith, as_long, le))) ∙ same ∙ take_whole n xs le

-- the prefix of a list stays the same if other elements follow it
pub front_kept : {X : Type 0} (n : ℕ) (xs others : List X) → n ≤ length xs
    → take n (take n xs ++ others) ≡ take n xs
front_kept n xs others le =
    take-append-le n (take n xs) others (omega (arith, length-take-le n xs le))
    ∙ take_twice n n xs (omega arith)

-- Two lists agree on their first `d` elements, and on the elements from `d` to `n`. After the first
-- `d`, both have the same number of elements, at most `n - d + k`.
pub record Behind (n d k : ℕ) (xs ys : List ℕ) : Type 0 where
  pub first : take d ys ≡ take d xs
  pub later : take (n - d) (drop d ys) ≡ take (n - d) (drop d xs)
  pub enough : length (drop d xs) ≤ (n - d) + k
  pub as_long : length (drop d ys) ≡ length (drop d xs)

pub behind : (n d k : ℕ) (xs ys : List ℕ) → length ys ≡ length xs → length xs ≤ n + k
    → k ≤ length (drop d xs)
    → take n ys ≡ take n xs → Behind n d k xs ys
behind n d k xs ys as_long enough left same =
    elim (cases_lt n d) [
      | inl lt ↦
          let is : ys ≡ xs =
          whole n xs ys same as_long (omega (arith, length-drop d xs, enough, left, lt)) in
          record {
            first = ap (λ l. take d l) is;
            later = ap (λ l. take (n - d) (drop d l)) is;
            enough = omega (arith, length-drop d xs, enough, left, lt);
            as_long = ap (λ l. length (drop d l)) is;
          }
      | inr le ↦ record {
        first = shorter n xs ys same d le;
        later = part n xs ys same d (n - d) (omega (arith, le));
        enough = omega (arith, length-drop d xs, enough, left, le);
        as_long = omega (arith, length-drop d xs, length-drop d ys, as_long);
      }
    ]

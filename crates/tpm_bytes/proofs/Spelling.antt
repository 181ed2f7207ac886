-- If a read returns an item exactly when the input starts with its encoding, the same is true of a
-- list of items.
use Rattle.std.proofs.Common.{◌≡◌, ℕ, zero, suc, List, [], ◌∷◌, ◌++◌, length, Result, Ok, refl, ap, subst, ◌∙◌, append_assoc}
use Rattle.std.specs.List.{flat_map, AllByRecursion}
use Rattle.tpm_bytes.specs.Many.{many_at}
use Rattle.tpm_bytes.specs.Reading.{◌>>=◌}
use Rattle.tpm_bytes.proofs.Fields.{AreBytes, Takes, Takes-then, bind_ok, ok_is}

-- Each item that a read returns has the property `Is`, and the bytes start with its encoding.
abbrev pub IsTaken : {A E : Type 0} → (A → List ℕ) → (A → Type 0) → (List ℕ → Result (A × List ℕ) E)
    → Type 0
IsTaken {A} text Is at = (bytes : List ℕ) (x : A × List ℕ) → AreBytes bytes → at bytes ≡ Ok x
    → Takes bytes (text x.0) x.1 × Is x.0

-- The encoding of each item with the property `Is` decodes to that item.
abbrev pub IsAgain : {A E : Type 0} → (A → List ℕ) → (A → Type 0) → (List ℕ → Result (A × List ℕ) E)
    → Type 0
IsAgain {A} text Is at = (x : A) (rest : List ℕ) → Is x → at (text x ++ rest) ≡ Ok (x, rest)

pub many_taken : {A E : Type 0} (text : A → List ℕ) (Is : A → Type 0)
    (at : List ℕ → Result (A × List ℕ) E) → IsTaken text Is at
    → (n : ℕ) (bytes : List ℕ) (x : List A × List ℕ) → AreBytes bytes → many_at at n bytes ≡ Ok x
    → Takes bytes (flat_map text x.0) x.1 × (length x.0 ≡ n) × AllByRecursion Is x.0
many_taken {A} {E} text Is at taken zero bytes x fits e =
    subst (λ (y : List A × List ℕ). Takes bytes (flat_map text y.0) y.1 × (length y.0 ≡ 0)
    × AllByRecursion Is y.0) (ok_is {E = E} ([], bytes) x e)
    (record { parts = refl; rest_fits = fits }, refl, tt)
many_taken {A} {E} text Is at taken (suc n) bytes x fits e =
    let a =
    bind_ok (at bytes) (λ first. many_at at n first.1
    >>= λ others. Ok (first.0 ∷ others.0, others.1)) x e in
    let b = bind_ok (many_at at n a.0.1) (λ others. Ok (a.0.0 ∷ others.0, others.1)) x a.2 in
    let first = taken bytes a.0 fits a.1 in
    let others = many_taken text Is at taken n a.0.1 b.0 first.0.rest_fits b.1 in
    let made : List A × List ℕ = (a.0.0 ∷ b.0.0, b.0.1) in
    let both = Takes-then bytes (text a.0.0) a.0.1 (flat_map text b.0.0) b.0.1 first.0 others.0 in
    subst (λ (y : List A × List ℕ). Takes bytes (flat_map text y.0) y.1 × (length y.0 ≡ suc n)
    × AllByRecursion Is y.0) (ok_is {E = E} made x b.2)
    (both, ap suc others.1, (first.1, others.2))

pub many_again : {A E : Type 0} (text : A → List ℕ) (Is : A → Type 0)
    (at : List ℕ → Result (A × List ℕ) E) → IsAgain text Is at → (xs : List A) (rest : List ℕ)
    → AllByRecursion Is xs → many_at at (length xs) (flat_map text xs ++ rest) ≡ Ok (xs, rest)
many_again text Is at again [] rest all = refl
many_again text Is at again (x ∷ xs) rest all =
    ap (many_at at (suc (length xs))) (append_assoc (text x) (flat_map text xs) rest)
    ∙ rw (again x (flat_map text xs ++ rest) all.0, many_again text Is at again xs rest all.1) refl

-- Lemmas about a loop that appends several byte strings, one after another, to a buffer of fixed
-- capacity.
use Rattle.std.proofs.lemmas.List.{take_more, flat_map_more}
use Rattle.std.proofs.lemmas.List.Folds.{length-flat_map-take}
use Rattle.std.proofs.Common.{◌≡◌, ℕ, ◌+◌, ◌<◌, ◌≤◌, List, [], ◌∷◌, ◌++◌, length, take, get_or, arith, ap, sym, subst, ◌∙◌, length-append}
use Rattle.std.specs.List.{flat_map}

-- If the first i byte strings have been appended, and the next one is then appended, the first i +
-- 1 byte strings have been appended.
pub written_more : {X : Type 0} (text : X → List ℕ) (xs : List X) (i : ℕ) (d x : X)
    (start so_far new : List ℕ) → i < length xs → x ≡ get_or xs i d
    → so_far ≡ start ++ flat_map text (take i xs) → new ≡ so_far ++ text x
    → new ≡ start ++ flat_map text (take (i + 1) xs)
written_more {X} text xs i d x start so_far new below is so wrote =
    let next : take i xs ++ x ∷ [] ≡ take (i + 1) xs =
    ap (λ (y : X). take i xs ++ y ∷ []) is ∙ sym (take_more xs i d below) in
    wrote
    ∙ ap (λ (l : List ℕ). l ++ text x) so
    ∙ flat_map_more text start (take i xs) x
    ∙ ap (λ (l : List X). start ++ flat_map text l) next

-- if the buffer has room for all byte strings, it has room for the next byte string
pub fits_more : {X : Type 0} (text : X → List ℕ) (xs : List X) (i capacity : ℕ) (d x : X)
    (start so_far : List ℕ) → i < length xs → x ≡ get_or xs i d
    → so_far ≡ start ++ flat_map text (take i xs)
    → length start + length (flat_map text xs) ≤ capacity
    → length so_far + length (text x) ≤ capacity
fits_more {X} text xs i capacity d x start so_far below is so room =
    let next : length (flat_map text (take i xs)) + length (text x) ≤ length (flat_map text xs) =
    subst (λ (y : X). length (flat_map text (take i xs)) + length (text y)
    ≤ length (flat_map text xs)) (sym is) (length-flat_map-take text xs i d below) in
    rw so (omega (arith, length-append start (flat_map text (take i xs))))

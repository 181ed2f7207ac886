-- Folding a relation over one list, and then over a second list, is the same as folding it over the
-- concatenation of both.
use Rattle.std.proofs.Common.{List, [], ◌∷◌, ◌++◌, sym, subst}
use Rattle.std.specs.List.{FoldsTo}

pub folds_on : {P X : Type 0} (R : P → X → P → Type 0) (p q r : P) (xs ys : List X)
    → FoldsTo R p xs q → FoldsTo R q ys r → FoldsTo R p (xs ++ ys) r
folds_on {P} R p q r [] ys first then = subst (λ (s : P). FoldsTo R s ys r) (sym first) then
folds_on R p q r (x ∷ xs) ys first then =
    (first.0, first.1, folds_on R first.0 q r xs ys first.2 then)

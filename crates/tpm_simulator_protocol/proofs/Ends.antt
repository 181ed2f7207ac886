-- Nothing is left after the end of a list.
use Rattle.std.proofs.Common.{◌≡◌, ℕ, ◌<◌, List, [], length, drop, arith}
use Rattle.std.proofs.lemmas.List.{drop_all}

pub drop_past : {X : Type 0} (n : ℕ) (xs : List X) → length xs < n → drop n xs ≡ []
drop_past n xs less = drop_all n xs (omega (arith, less))

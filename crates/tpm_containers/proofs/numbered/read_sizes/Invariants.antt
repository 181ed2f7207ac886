use Rattle.std.proofs.Common.{ℕ, ◌<◌, IfSome}
use Rattle.tpm_containers.proofs.numbered.read_sizes.Given as goal
use Rattle.tpm_containers.specs.Slots.{at_place}

-- Each value in the slots before this index has the property `IsOne`.
abbrev pub invariant-loop-place : goal.invariant-loop-place
invariant-loop-place g l =
    (place : ℕ) → place < l.place
    → IfSome (at_place (g.P.Slots.places l.places) place) g.T.Sizes.IsOne

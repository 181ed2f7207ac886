use Rattle.std.proofs.Common.{◌≡◌, drop}
use Rattle.std.specs.List.{find}
use Rattle.tpm_completion.specs.Hiding.{is_saved_at}
use Rattle.tpm_completion.proofs.completion.Completion.first_saved.Given as goal

-- The first saved session among the remaining handles is the first one among all handles.
abbrev pub invariant-loop-place : goal.invariant-loop-place
invariant-loop-place l =
    find (is_saved_at l.self l.buffer) (drop l.place-index l.places)
    ≡ find (is_saved_at l.self l.buffer) l.places

use Rattle.std.proofs.Common.{◌≡◌, ◌<◌, ◌^◌, length, take}
use Rattle.std.specs.List.{All}
use Rattle.tpm_snapshot.proofs.layer.sessions_of.Given as goal

-- The context numbers of all earlier slots have been copied.
abbrev pub invariant-loop-place : goal.invariant-loop-place
invariant-loop-place l = record {
  copied : take l.place l.saved ≡ take l.place l.sessions;
  fits : All (λ context. context < 2 ^ 64) (take l.place l.saved);
  size : length l.saved ≡ 16;
}

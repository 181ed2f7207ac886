use Rattle.std.proofs.Common.{◌≡◌}
use Rattle.tpm_nv.proofs.StartupLaws.{started_up_to}
use Rattle.tpm_nv.proofs.startup.start_heads.Given as goal

abbrev pub invariant-loop-place : goal.invariant-loop-place
invariant-loop-place g l = g.H.SortedMap.entries l.heads
    ≡ started_up_to l.place (g.H.SortedMap.entries l.initial.heads)

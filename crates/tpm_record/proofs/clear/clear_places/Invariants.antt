use Rattle.std.proofs.Common.{◌≡◌, ◌≤◌, length}
use Rattle.tpm_types_common.specs.Limits.{object_limit}
use Rattle.tpm_record.proofs.ClearLaws.{cleared_up_to}
use Rattle.tpm_record.proofs.clear.clear_places.Given as goal

abbrev pub invariant-loop-place : goal.invariant-loop-place
invariant-loop-place g l = record {
  cleared : g.O.Slots.places l.places ≡ cleared_up_to l.place (g.O.Slots.places l.initial.places);
  -- Once one slot has been processed, the number of slots is known to be `object_limit`.
  all : 1 ≤ l.place → length (g.O.Slots.places l.initial.places) ≡ object_limit;
}

use Rattle.std.proofs.Common.{◌≡◌, None}
use Rattle.tpm_record.specs.AnyObject.{is_from, least_below}
use Rattle.tpm_record.specs.Objects.{objects_of}
use Rattle.tpm_record.proofs.objects.Objects.next.Given as goal

abbrev pub invariant-loop-place : goal.invariant-loop-place
invariant-loop-place g l =
    least_below (is_from (objects_of g.O.Slots.places l.fn.self) l.fn.from.number) l.place ≡ None

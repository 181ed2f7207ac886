use Rattle.std.proofs.Common.{arith}
use Rattle.tpm_containers.proofs.SortedMapLaws.{kept_ascends, kept_few}
use Rattle.tpm_containers.proofs.entry_map.EntryMapSortedMap.retain.Goals as goal

pub invariant_of-self : goal.invariant_of-self
invariant_of-self g c =
    let es = g.E.Items.items c.self.inside.entries in
    let fewer = kept_few g.C.Choice.stays es in
    rw c.retain.ensures (
      kept_ascends g.C.Choice.stays es c.self.invariant.0,
      omega (arith, fewer, c.self.invariant.1),
    )

use Rattle.tpm_nv.proofs.KeptLaws.{seen_head}
use Rattle.tpm_nv.proofs.stored_indices.StoredIndicesIndices.get.Goals as goal

pub returns : goal.returns
returns g c =
    rw (← c.self.view_is)
    (seen_head (g.H.SortedMap.entries c.self.inside.heads) (g.R.Area.bytes c.self.inside.area)
    c.args.handle.number c.get.result c.self.invariant.ascends c.get.ensures.value)

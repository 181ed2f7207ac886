use Rattle.std.proofs.Common.{rules}
use Rattle.tpm_nv.proofs.KeptLaws.{contents_are}
use Rattle.tpm_nv.proofs.stored_indices.StoredIndicesIndices.read_sizes.Goals as goal

pub returns : goal.returns
returns g c =
    rw (← c.self.view_is)
    (contents_are (g.H.SortedMap.entries c.self.inside.heads)
    (g.R.Area.bytes c.self.inside.area) c.self.inside.max_count c.self.invariant
    (search rules))

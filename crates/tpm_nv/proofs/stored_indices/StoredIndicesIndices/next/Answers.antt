use Rattle.std.proofs.Common.{sym, ◌∙◌}
use Rattle.tpm_nv.proofs.Cuts.{next_among}
use Rattle.tpm_nv.proofs.stored_indices.StoredIndicesIndices.next.Goals as goal

pub returns : goal.returns
returns g c =
    rw (← c.self.view_is) (c.next.ensures
    ∙ sym (next_among (g.H.SortedMap.entries c.self.inside.heads)
    (g.R.Area.bytes c.self.inside.area) c.args.handle.number))

use Rattle.tpm_nv.proofs.KeptLaws.{absent_is, there_is}
use Rattle.tpm_nv.proofs.stored_indices.StoredIndices.head.Goals as goal

pub returns-clause-absent : goal.returns-clause-absent
returns-clause-absent g c =
    rw (← c.self.view_is)
    (absent_is (g.H.SortedMap.entries c.self.inside.heads) (g.R.Area.bytes c.self.inside.area)
    c.args.handle.number c.get.result c.get.ensures.value)

pub returns-clause-there : goal.returns-clause-there
returns-clause-there g c =
    rw (← c.self.view_is)
    (there_is (g.H.SortedMap.entries c.self.inside.heads) (g.R.Area.bytes c.self.inside.area)
    c.self.inside.max_count c.args.handle c.get.result c.self.invariant c.get.ensures.value)

use Rattle.std.proofs.Common.{◌≡◌, Some, None, subst}
use Rattle.std.specs.Prelude.{IfNone, IfSome}
use Rattle.tpm_containers.specs.SortedMap.{Entries, at_key}
use Rattle.tpm_nv.specs.Head.{start_of}
use Rattle.tpm_nv.specs.declared.head.Head.{Head}
use Rattle.tpm_nv.proofs.KeptLaws.{found_none, found_some}
use Rattle.tpm_nv.proofs.stored_indices.StoredIndices.find.Goals as goal

pub returns-clause-absent : goal.returns-clause-absent
returns-clause-absent g c =
    found_none (g.H.SortedMap.entries c.self.inside.heads) (g.R.Area.bytes c.self.inside.area)
    c.self.inside.max_count c.args.handle c.args.self.now c.self.view_is c.found_at.result
    (subst (λ (l : Entries Head). IfNone c.found_at.result (at_key l c.args.handle.number ≡ None))
    c.as_slice.ensures c.found_at.ensures.absent)

pub returns-clause-there : goal.returns-clause-there
returns-clause-there g c =
    found_some (g.H.SortedMap.entries c.self.inside.heads) (g.R.Area.bytes c.self.inside.area)
    c.self.inside.max_count c.args.handle c.args.self.now c.self.view_is c.found_at.result
    c.self.invariant
    (subst (λ (l : Entries Head). IfSome c.found_at.result
    (λ f. (at_key l c.args.handle.number ≡ Some f.head.now)
    × (f.start ≡ start_of l c.args.handle.number))) c.as_slice.ensures
    c.found_at.ensures.there)

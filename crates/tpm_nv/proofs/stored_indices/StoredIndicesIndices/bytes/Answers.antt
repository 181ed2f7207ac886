use Rattle.std.proofs.Common.{sym, ap, ◌∙◌, length}
use Rattle.tpm_nv.specs.Head.{indices_of}
use Rattle.tpm_nv.proofs.Cuts.{bytes_among, heads_among}
use Rattle.tpm_nv.proofs.stored_indices.StoredIndicesIndices.bytes.Goals as goal

pub returns-clause-seen : goal.returns-clause-seen
returns-clause-seen g c =
    let es = g.H.SortedMap.entries c.self.inside.heads in
    let area = g.R.Area.bytes c.self.inside.area in
    rw (← c.self.view_is, c.as_slice.ensures)
    (ap (λ heads. indices_of heads area) (sym (heads_among es area)))

pub returns-clause-whole : goal.returns-clause-whole
returns-clause-whole g c =
    let es = g.H.SortedMap.entries c.self.inside.heads in
    let area = g.R.Area.bytes c.self.inside.area in
    rw (← c.self.view_is) (ap length c.as_slice.ensures ∙ c.self.invariant.whole
    ∙ sym (bytes_among es area))

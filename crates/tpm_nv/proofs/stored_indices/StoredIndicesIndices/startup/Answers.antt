use Rattle.std.proofs.Common.{List, ℕ, ap, ◌∙◌}
use Rattle.tpm_nv.specs.Head.{indices_of}
use Rattle.tpm_nv.specs.Index.{NvContents, NvIndex}
use Rattle.tpm_nv.specs.Startup.{contents_after_startup}
use Rattle.tpm_nv.proofs.StartupLaws.{kept_started, started_among}
use Rattle.tpm_nv.proofs.stored_indices.StoredIndicesIndices.startup.Goals as goal

pub invariant_of-self : goal.invariant_of-self
invariant_of-self g c =
    rw c.start_heads.ensures
    (kept_started (g.H.SortedMap.entries c.self.inside.heads) (g.R.Area.bytes c.self.inside.area)
    c.self.invariant)

pub returns : goal.returns
unfolding contents_after_startup
returns g c =
    let es = g.H.SortedMap.entries c.self.inside.heads in
    let area = g.R.Area.bytes c.self.inside.area in
    let made : List (ℕ × NvIndex) → NvContents =
    λ l. record { indices = l; max_count = c.self.inside.max_count } in
    ap made (ap (λ l. indices_of l area) c.start_heads.ensures ∙ started_among es area)
    ∙ ap contents_after_startup c.self.view_is

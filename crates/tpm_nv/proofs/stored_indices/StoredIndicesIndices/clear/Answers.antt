use Rattle.std.proofs.Common.{List, ℕ, ap, ◌∙◌, arith}
use Rattle.tpm_containers.specs.SortedMap.{kept_entries}
use Rattle.tpm_nv.specs.Clear.{contents_after_clear}
use Rattle.tpm_nv.specs.Head.{indices_of, kept_bytes, stays}
use Rattle.tpm_nv.specs.Index.{NvContents, NvIndex}
use Rattle.tpm_nv.proofs.ClearLaws.{kept_cleared, shown_kept}
use Rattle.tpm_nv.proofs.stored_indices.StoredIndicesIndices.clear.Goals as goal

pub invariant_of-self : goal.invariant_of-self
invariant_of-self g c =
    let es = g.H.SortedMap.entries c.self.inside.heads in
    let area = g.R.Area.bytes c.self.inside.area in
    let bytes = c.keep_bytes.ensures ∙ ap (λ l. kept_bytes l area) c.as_slice.ensures in
    rw (c.retain.ensures, bytes) (kept_cleared es area c.self.invariant)

pub returns : goal.returns
unfolding contents_after_clear
returns g c =
    let es = g.H.SortedMap.entries c.self.inside.heads in
    let area = g.R.Area.bytes c.self.inside.area in
    let bytes = c.keep_bytes.ensures ∙ ap (λ l. kept_bytes l area) c.as_slice.ensures in
    let made : List (ℕ × NvIndex) → NvContents =
    λ l. record { indices = l; max_count = c.self.inside.max_count } in
    ap made (
    ap (λ l. indices_of l (g.R.Area.bytes c.keep_bytes.new.area)) c.retain.ensures
    ∙ ap (λ l. indices_of (kept_entries stays es) l) bytes
    ∙ shown_kept es area (omega (arith, c.self.invariant.whole))
    )
    ∙ ap contents_after_clear c.self.view_is

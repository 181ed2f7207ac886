use Rattle.std.proofs.Common.{◌≡◌, Option, Some, None, is_some, true, refl, ap, ◌∙◌}
use Rattle.std.specs.Prelude.{IsSomeAnd}
use Rattle.tpm_nv.specs.Bytes.{piece_of}
use Rattle.tpm_nv.specs.Head.{index_with, indices_of, size_of, start_of}
use Rattle.tpm_nv.specs.Index.{NvIndex, index_at}
use Rattle.tpm_nv.specs.declared.head.Head.{Head}
use Rattle.tpm_nv.proofs.Cuts.{found_among, head_at}
use Rattle.tpm_nv.proofs.KeptLaws.{contents_changed, head_of_index, is_head_authorized, kept_changed, seen_changed}
use Rattle.tpm_nv.proofs.stored_indices.StoredIndices.replace_auth.Goals as goal

is_there : (found : Option NvIndex) → is_some found ≡ true → IsSomeAnd found (λ i. Unit {0})
is_there (Some i) is = tt
is_there None is = absurd cc

pub invariant_of-self : goal.invariant_of-self
invariant_of-self g c =
    let es = g.H.SortedMap.entries c.self.inside.heads in
    let area = g.R.Area.bytes c.self.inside.area in
    let key = c.args.handle.number in
    let t = head_of_index (λ i. Unit {0}) es area c.self.inside.max_count c.args.handle
    c.args.self.now c.self.view_is c.self.invariant
    (is_there (index_at c.args.self.now c.args.handle) c.requires) in
    let h : Head = t.0 in
    let there = t.1 in
    rw (c.set_auth_value.ensures h there)
    (kept_changed es area area key h (record h { auth_value = c.args.value }) c.self.invariant
    there (is_head_authorized key h c.args.value
    (head_at es key h c.self.invariant.ascends c.self.invariant.each there)
    c.auth_value_fits.ensures) refl refl)

pub returns : goal.returns
returns g c =
    let es = g.H.SortedMap.entries c.self.inside.heads in
    let area = g.R.Area.bytes c.self.inside.area in
    let key = c.args.handle.number in
    let t = head_of_index (λ i. Unit {0}) es area c.self.inside.max_count c.args.handle
    c.args.self.now c.self.view_is c.self.invariant
    (is_there (index_at c.args.self.now c.args.handle) c.requires) in
    let h : Head = t.0 in
    let there = t.1 in
    let seen = ap (λ l. indices_of l area) (c.set_auth_value.ensures h there)
    ∙ seen_changed es area key h (record h { auth_value = c.args.value }) c.self.invariant there
    refl in
    contents_changed es (g.H.SortedMap.entries c.set_auth_value.new.heads) area area
    c.self.inside.max_count c.args.handle c.args.self.now
    (index_with h (piece_of (start_of es key) (size_of h) area))
    (λ (i : NvIndex). record i { auth_value = c.args.value }) c.self.view_is
    (found_among es area key h c.self.invariant.ascends there) seen

use Rattle.std.proofs.Common.{◌≡◌, refl, ap, ◌∙◌}
use Rattle.tpm_containers.specs.SortedMap.{changed_key}
use Rattle.tpm_types_nv.specs.NvAttributes.{with_attribute}
use Rattle.tpm_types_nv.specs.declared.nv_attributes.NvAttributes.{NvAttributes}
use Rattle.tpm_nv.specs.Access.{marked_index}
use Rattle.tpm_nv.specs.Bytes.{piece_of}
use Rattle.tpm_nv.specs.Head.{indices_of, size_of, start_of, with_attributes}
use Rattle.tpm_nv.specs.Index.{NvIndex}
use Rattle.tpm_nv.specs.declared.head.Head.{Head}
use Rattle.tpm_nv.proofs.Cuts.{found_among, head_at}
use Rattle.tpm_nv.proofs.KeptLaws.{contents_changed, head_of_index, is_head_marked, kept_changed, marked_is, seen_changed}
use Rattle.tpm_nv.proofs.stored_indices.StoredIndices.mark.Goals as goal

pub invariant_of-self : goal.invariant_of-self
invariant_of-self g c =
    let es = g.H.SortedMap.entries c.self.inside.heads in
    let area = g.R.Area.bytes c.self.inside.area in
    let key = c.args.handle.number in
    let t = head_of_index (λ i. c.args.of ≡ i.public.attributes) es area c.self.inside.max_count
    c.args.handle c.args.self.now c.self.view_is c.self.invariant c.requires.there in
    let h : Head = t.0 in
    let there = t.1 in
    let same : c.with.result ≡ with_attribute h.public.attributes c.args.attribute =
    c.with.ensures ∙ ap (λ (a : NvAttributes). with_attribute a c.args.attribute) t.2 in
    let after = c.set_attributes.ensures h there
    ∙ ap (λ (a : NvAttributes). changed_key es key (with_attributes h a)) same in
    rw after (kept_changed es area area key h
    (with_attributes h (with_attribute h.public.attributes c.args.attribute)) c.self.invariant
    there (is_head_marked key h c.args.attribute
    (head_at es key h c.self.invariant.ascends c.self.invariant.each there)) refl refl)

pub returns : goal.returns
returns g c =
    let es = g.H.SortedMap.entries c.self.inside.heads in
    let area = g.R.Area.bytes c.self.inside.area in
    let key = c.args.handle.number in
    let t = head_of_index (λ i. c.args.of ≡ i.public.attributes) es area c.self.inside.max_count
    c.args.handle c.args.self.now c.self.view_is c.self.invariant c.requires.there in
    let h : Head = t.0 in
    let there = t.1 in
    let same : c.with.result ≡ with_attribute h.public.attributes c.args.attribute =
    c.with.ensures ∙ ap (λ (a : NvAttributes). with_attribute a c.args.attribute) t.2 in
    let after = c.set_attributes.ensures h there
    ∙ ap (λ (a : NvAttributes). changed_key es key (with_attributes h a)) same in
    let old = piece_of (start_of es key) (size_of h) area in
    let seen = ap (λ l. indices_of l area) after
    ∙ seen_changed es area key h
    (with_attributes h (with_attribute h.public.attributes c.args.attribute)) c.self.invariant
    there refl ∙ ap (λ (i : NvIndex). changed_key (indices_of es area) key i)
    (marked_is h old c.args.attribute c.requires.other) in
    contents_changed es (g.H.SortedMap.entries c.set_attributes.new.heads) area area
    c.self.inside.max_count c.args.handle c.args.self.now _
    (λ i. marked_index i c.args.attribute) c.self.view_is
    (found_among es area key h c.self.invariant.ascends there) seen

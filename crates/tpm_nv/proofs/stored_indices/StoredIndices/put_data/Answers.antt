use Rattle.std.proofs.Common.{◌≡◌, ◌+◌, ◌≤◌, length, ap, ◌∙◌, arith}
use Rattle.tpm_containers.specs.SortedMap.{changed_key}
use Rattle.tpm_types_nv.specs.NvAttributes.{has, with_attribute}
use Rattle.tpm_types_nv.specs.declared.nv_attributes.NvAttribute.TheVariants as attribute
use Rattle.tpm_types_nv.specs.declared.nv_attributes.NvAttributes.{NvAttributes}
use Rattle.tpm_nv.specs.Access.{data_or, with_data}
use Rattle.tpm_nv.specs.Bytes.{piece_of, put_over}
use Rattle.tpm_nv.specs.Head.{index_with, indices_of, size_of, start_of, with_attributes}
use Rattle.tpm_nv.specs.declared.head.Head.{Head}
use Rattle.tpm_nv.specs.declared.pieces.Piece.{Piece}
use Rattle.tpm_nv.proofs.Cuts.{found_among}
use Rattle.tpm_nv.proofs.KeptLaws.{contents_changed, head_of_index, kept_put, piece_inside, put_is, seen_put, start_is, written_head}
use Rattle.tpm_nv.proofs.stored_indices.StoredIndices.put_data.Goals as goal

pub put_bytes-requires-clause-inside : goal.put_bytes-requires-clause-inside
put_bytes-requires-clause-inside g c =
    let es = g.H.SortedMap.entries c.self.inside.heads in
    let area = g.R.Area.bytes c.self.inside.area in
    let key = c.args.handle.number in
    let place = c.args.place in
    let t =
    head_of_index (λ i. (place.attributes ≡ i.public.attributes)
    × (place.size ≡ i.public.data_size)) es area c.self.inside.max_count c.args.handle
    c.args.self.now c.self.view_is c.self.invariant c.requires.there.0 in
    let h : Head = t.0 in
    let there = t.1 in
    let from : place.start ≡ start_of es key =
    c.requires.there.1 ∙ start_is es area c.self.inside.max_count c.args.handle c.args.self.now
    c.self.view_is in
    let p = c.piece.ensures in
    omega (
      arith,
      ap (λ (x : Piece). x.start) p,
      ap (λ (x : Piece). x.size) p,
      from,
      t.2.1,
      piece_inside es area key h c.self.invariant there,
    )

pub put_bytes-requires-clause-within : goal.put_bytes-requires-clause-within
put_bytes-requires-clause-within g c =
    omega (arith, ap (λ (x : Piece). x.size) c.piece.ensures, c.requires.within)

pub invariant_of-self : goal.invariant_of-self
invariant_of-self g c =
    let es = g.H.SortedMap.entries c.self.inside.heads in
    let area = g.R.Area.bytes c.self.inside.area in
    let key = c.args.handle.number in
    let place = c.args.place in
    let t =
    head_of_index (λ i. (place.attributes ≡ i.public.attributes)
    × (place.size ≡ i.public.data_size)) es area c.self.inside.max_count c.args.handle
    c.args.self.now c.self.view_is c.self.invariant c.requires.there.0 in
    let h : Head = t.0 in
    let there = t.1 in
    let from : place.start ≡ start_of es key =
    c.requires.there.1 ∙ start_is es area c.self.inside.max_count c.args.handle c.args.self.now
    c.self.view_is in
    let bytes = c.args.bytes.now in
    let within : c.args.offset + length bytes ≤ size_of h =
    omega (arith, c.requires.within, t.2.1) in
    let marked : with_attribute place.attributes attribute.Written
    ≡ with_attribute h.public.attributes attribute.Written =
    ap (λ (a : NvAttributes). with_attribute a attribute.Written) t.2.0 in
    let heads = c.set_attributes.ensures h there
    ∙ ap (λ (a : NvAttributes). changed_key es key (with_attributes h a))
    (c.with-written.ensures ∙ marked) in
    let piece = c.piece.result in
    let p = c.piece.ensures in
    let bytes_are = put_is (g.R.Area.bytes c.put_bytes.new.area) bytes area
    (has h.public.attributes attribute.Written) (start_of es key) (size_of h) c.args.offset
    c.args.first piece.start piece.size piece.is_written c.put_bytes.ensures
    (ap (λ (x : Piece). x.is_written) p
    ∙ ap (λ (a : NvAttributes). has a attribute.Written) t.2.0)
    (ap (λ (x : Piece). x.start) p ∙ from) (ap (λ (x : Piece). x.size) p ∙ t.2.1) in
    rw (heads, bytes_are)
    (kept_put es area bytes key c.args.offset c.args.first h c.self.invariant there within)

pub returns : goal.returns
returns g c =
    let es = g.H.SortedMap.entries c.self.inside.heads in
    let area = g.R.Area.bytes c.self.inside.area in
    let key = c.args.handle.number in
    let place = c.args.place in
    let t =
    head_of_index (λ i. (place.attributes ≡ i.public.attributes)
    × (place.size ≡ i.public.data_size)) es area c.self.inside.max_count c.args.handle
    c.args.self.now c.self.view_is c.self.invariant c.requires.there.0 in
    let h : Head = t.0 in
    let there = t.1 in
    let from : place.start ≡ start_of es key =
    c.requires.there.1 ∙ start_is es area c.self.inside.max_count c.args.handle c.args.self.now
    c.self.view_is in
    let bytes = c.args.bytes.now in
    let within : c.args.offset + length bytes ≤ size_of h =
    omega (arith, c.requires.within, t.2.1) in
    let marked : with_attribute place.attributes attribute.Written
    ≡ with_attribute h.public.attributes attribute.Written =
    ap (λ (a : NvAttributes). with_attribute a attribute.Written) t.2.0 in
    let heads = c.set_attributes.ensures h there
    ∙ ap (λ (a : NvAttributes). changed_key es key (with_attributes h a))
    (c.with-written.ensures ∙ marked) in
    let piece = c.piece.result in
    let p = c.piece.ensures in
    let bytes_are = put_is (g.R.Area.bytes c.put_bytes.new.area) bytes area
    (has h.public.attributes attribute.Written) (start_of es key) (size_of h) c.args.offset
    c.args.first piece.start piece.size piece.is_written c.put_bytes.ensures
    (ap (λ (x : Piece). x.is_written) p
    ∙ ap (λ (a : NvAttributes). has a attribute.Written) t.2.0)
    (ap (λ (x : Piece). x.start) p ∙ from) (ap (λ (x : Piece). x.size) p ∙ t.2.1) in
    let index = index_with h (piece_of (start_of es key) (size_of h) area) in
    let seen =
    ap (λ l. indices_of l (g.R.Area.bytes c.put_bytes.new.area)) heads
    ∙ ap (λ l. indices_of (changed_key es key (written_head h)) l) bytes_are
    ∙ seen_put es area bytes key c.args.offset c.args.first h c.self.invariant there within in
    contents_changed es (g.H.SortedMap.entries c.set_attributes.new.heads) area
    (g.R.Area.bytes c.put_bytes.new.area) c.self.inside.max_count c.args.handle c.args.self.now
    index (λ i. with_data i (put_over c.args.offset bytes (data_or c.args.first i)))
    c.self.view_is (found_among es area key h c.self.invariant.ascends there) seen

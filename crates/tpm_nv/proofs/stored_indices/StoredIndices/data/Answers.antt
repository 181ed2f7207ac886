use Rattle.std.proofs.Common.{◌≡◌, refl, sym, ap, ◌∙◌, length, arith}
use Rattle.tpm_nv.specs.Bytes.{piece_of}
use Rattle.tpm_nv.specs.Head.{index_with, size_of, start_of}
use Rattle.tpm_nv.specs.Index.{NvIndex, index_at}
use Rattle.tpm_nv.proofs.KeptLaws.{bytes_of, head_of_index, known_some, piece_inside, start_is}
use Rattle.tpm_nv.proofs.stored_indices.StoredIndices.data.Goals as goal

pub piece_at-requires : goal.piece_at-requires
piece_at-requires g c =
    let es = g.H.SortedMap.entries c.self.inside.heads in
    let area = g.R.Area.bytes c.self.inside.area in
    let r = c.requires in
    let handle = r.0 in
    let index = index_with c.args.found.head.now r.1.0 in
    let t = head_of_index (λ i. i ≡ index) es area c.self.inside.max_count handle c.args.self.now
    c.self.view_is c.self.invariant
    (known_some (λ i. i ≡ index) (index_at c.args.self.now handle) index r.1.1.found refl) in
    let size : size_of t.0 ≡ size_of c.args.found.head.now =
    ap (λ (i : NvIndex). i.public.data_size) t.2 in
    let from : c.args.found.start ≡ start_of es handle.number =
    r.1.2 ∙ start_is es area c.self.inside.max_count handle c.args.self.now c.self.view_is in
    omega (
      arith,
      from,
      size,
      c.from-size.ensures,
      ap length c.as_slice.ensures,
      piece_inside es area handle.number t.0 c.self.invariant t.1,
    )

pub returns : goal.returns
returns g c = λ handle old is start written.
    let es = g.H.SortedMap.entries c.self.inside.heads in
    let area = g.R.Area.bytes c.self.inside.area in
    let h = c.args.found.head.now in
    let index = index_with h old in
    let t = head_of_index (λ i. i ≡ index) es area c.self.inside.max_count handle c.args.self.now
    c.self.view_is c.self.invariant
    (known_some (λ i. i ≡ index) (index_at c.args.self.now handle) index is.found refl) in
    let size : size_of t.0 ≡ size_of h = ap (λ (i : NvIndex). i.public.data_size) t.2 in
    let from : c.args.found.start ≡ start_of es handle.number =
    start ∙ start_is es area c.self.inside.max_count handle c.args.self.now c.self.view_is in
    let piece = piece_of (start_of es handle.number) (size_of t.0) area in
    let shown : c.piece_at.result.now ≡ piece =
    c.piece_at.ensures
    ∙ ap (λ s. piece_of s c.from-size.result c.as_slice.result.now) from
    ∙ ap (λ n. piece_of (start_of es handle.number) n c.as_slice.result.now)
    (c.from-size.ensures ∙ sym size)
    ∙ ap (λ l. piece_of (start_of es handle.number) (size_of t.0) l) c.as_slice.ensures in
    let bytes : (index_with h old).bytes ≡ old = rw written refl in
    shown ∙ bytes_of t.0 piece index t.2 written ∙ bytes

use Rattle.std.proofs.Common.{◌≡◌, ◌+◌, ◌≤◌, ℕ, List, Ok, true, false, sym, ap, ◌∙◌, length, arith}
use Rattle.std.specs.Prelude.{Result}
use Rattle.tpm_types_nv.specs.NvAttributes.{has}
use Rattle.tpm_types_nv.specs.declared.nv_attributes.NvAttribute.TheVariants as attribute
use Rattle.tpm_nv.specs.Bytes.{piece_of}
use Rattle.tpm_nv.specs.Head.{size_of}
use Rattle.tpm_nv.specs.declared.fault.ReadFault.{ReadFault}
use Rattle.tpm_nv.proofs.AreaLaws.{read_is}
use Rattle.tpm_nv.proofs.stored_indices.StoredIndicesIndices.read.Goals as goal

pub piece_at-requires : goal.piece_at-requires
piece_at-requires g c =
    let t = c.in-Some.ensures.there in
    let h = c.in-Some.found.head.now in
    let was_written : has h.public.attributes attribute.Written ≡ true =
    sym c.has-2.ensures ∙ c.if-not-has.false in
    let shown : c.data.result.now ≡ t.0 = c.data.ensures c.args.handle t.0 t.1 t.2 was_written in
    omega (arith, ap length shown, t.1.long, c.from.ensures, c.if-offset-size.false)

pub returns : goal.returns
returns g c =
    let t = c.in-Some.ensures.there in
    let h = c.in-Some.found.head.now in
    let was_written : has h.public.attributes attribute.Written ≡ true =
    sym c.has-2.ensures ∙ c.if-not-has.false in
    let free : has h.public.attributes attribute.ReadLocked ≡ false =
    sym c.has.ensures ∙ c.if-has.false in
    let shown : c.data.result.now ≡ t.0 = c.data.ensures c.args.handle t.0 t.1 t.2 was_written in
    let inside : c.args.offset + c.args.size ≤ size_of h =
    omega (
      arith,
      c.from.ensures,
      c.from-offset.ensures,
      c.from-size.ensures,
      c.if-offset-size.false,
    ) in
    let ok : List ℕ → Result (List ℕ) ReadFault = λ l. Ok l in
    let piece : c.piece_at.result.now ≡ piece_of c.args.offset c.args.size t.0 =
    c.piece_at.ensures
    ∙ ap (λ s. piece_of s c.from-size.result c.data.result.now) c.from-offset.ensures
    ∙ ap (λ n. piece_of c.args.offset n c.data.result.now) c.from-size.ensures
    ∙ ap (λ l. piece_of c.args.offset c.args.size l) shown in
    read_is c.args.self.now c.args.handle h t.0 c.args.offset c.args.size t.1 free was_written
    inside ∙ ap ok (sym piece)

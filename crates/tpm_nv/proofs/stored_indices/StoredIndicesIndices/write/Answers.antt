use Rattle.std.proofs.Common.{◌≡◌, ◌+◌, ◌≤◌, ℕ, Ok, false, sym, ap, ◌∙◌, length, arith}
use Rattle.std.specs.Prelude.{◌&&◌, ◌==◌, not, Result}
use Rattle.tpm_types_nv.specs.NvAttributes.{has}
use Rattle.tpm_types_nv.specs.declared.nv_attributes.NvAttribute.TheVariants as attribute
use Rattle.tpm_nv.specs.Access.{data_or, with_data}
use Rattle.tpm_nv.specs.Bytes.{put_over}
use Rattle.tpm_nv.specs.Head.{index_with, size_of}
use Rattle.tpm_nv.specs.Index.{NvContents, changed_index}
use Rattle.tpm_nv.specs.declared.fault.WriteFault.{WriteFault}
use Rattle.tpm_nv.specs.declared.place.DataPlace.{DataPlace}
use Rattle.tpm_nv.proofs.AreaLaws.{written_is}
use Rattle.tpm_nv.proofs.stored_indices.StoredIndicesIndices.write.Goals as goal

pub returns : goal.returns
returns g c =
    let t = c.in_ok-writable.ensures.there in
    let h = c.in_ok-writable.field-0.head.now in
    let bytes = c.args.bytes.now in
    let index = index_with h t.0 in
    let place = c.place-place.ensures in
    let inside : c.args.offset + length bytes ≤ size_of h =
    omega (
      arith,
      c.from-offset.ensures,
      ap (λ (p : DataPlace). p.size) place,
      c.if-offset-bytes.false,
    ) in
    let whole : (has h.public.attributes attribute.WriteAll && not (length bytes == size_of h))
    ≡ false =
    ap (λ (p : DataPlace). has p.attributes attribute.WriteAll && not (length bytes == p.size))
    (sym place)
    ∙ sym c.is_part.ensures
    ∙ c.if-is_part.false in
    let put : c.put_data.new.self ≡ changed_index c.args.self.now c.args.handle
    (with_data index (put_over c.args.offset bytes (data_or 0xff index))) =
    c.put_data.ensures index t.1.found
    ∙ ap (λ (o : ℕ). changed_index c.args.self.now c.args.handle
    (with_data index (put_over o bytes (data_or 0xff index)))) c.from-offset.ensures in
    let ok : NvContents → Result NvContents WriteFault = λ s. Ok s in
    written_is c.args.self.now c.args.handle h t.0 c.args.offset bytes t.1 t.2 inside whole
    ∙ ap ok (sym put)

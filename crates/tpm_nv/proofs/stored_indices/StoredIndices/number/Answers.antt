use Rattle.std.proofs.Common.{◌≡◌, true, sym, ap, ◌∙◌, length}
use Rattle.std.specs.Int.{from_be_bytes, w64}
use Rattle.tpm_types_nv.specs.NvAttributes.{has}
use Rattle.tpm_types_nv.specs.declared.nv_attributes.NvAttribute.TheVariants as attribute
use Rattle.tpm_nv.proofs.stored_indices.StoredIndices.number.Goals as goal

pub returns-then-has : goal.returns-then-has
returns-then-has g c = λ handle old is start long.
    let h = c.args.found.head.now in
    let was_written : has h.public.attributes attribute.Written ≡ true =
    sym c.has.ensures ∙ c.if-has.true in
    let shown : c.data.result.now ≡ old = c.data.ensures handle old is start was_written in
    rw was_written (c.number_of.ensures (ap length shown ∙ long) ∙ ap (from_be_bytes w64) shown)

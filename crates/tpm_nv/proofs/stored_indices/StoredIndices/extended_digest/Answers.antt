use Rattle.std.proofs.Common.{◌≡◌, ◌++◌, true, sym, ap, ◌∙◌}
use Rattle.tpm_mac.specs.Digest.{hash_of}
use Rattle.tpm_types_nv.specs.NvAttributes.{has}
use Rattle.tpm_types_nv.specs.declared.nv_attributes.NvAttribute.TheVariants as attribute
use Rattle.tpm_nv.proofs.stored_indices.StoredIndices.extended_digest.Goals as goal

pub returns-then-has-clause-value : goal.returns-then-has-clause-value
returns-then-has-clause-value g c = λ handle old is start size.
    let h = c.args.found.head.now in
    let was_written : has h.public.attributes attribute.Written ≡ true =
    sym c.has.ensures ∙ c.if-has.true in
    let shown : c.data.result.now ≡ old = c.data.ensures handle old is start was_written in
    rw was_written (c.digest_of.ensures.value
    ∙ ap (λ l. hash_of h.public.name_alg (l ++ c.args.bytes.now)) shown)

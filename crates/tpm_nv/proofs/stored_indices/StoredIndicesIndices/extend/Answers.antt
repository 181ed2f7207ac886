use Rattle.std.proofs.Common.{◌≡◌, ℕ, List, Ok, sym, ap, ◌∙◌, length}
use Rattle.std.specs.Prelude.{Result}
use Rattle.std.proofs.lemmas.Bool.{eqb-true}
use Rattle.tpm_types_nv.specs.declared.nv_type.NvType.TheVariants as type
use Rattle.tpm_nv.specs.Access.{with_data}
use Rattle.tpm_nv.specs.Head.{index_with, size_of}
use Rattle.tpm_nv.specs.Index.{NvContents, changed_index}
use Rattle.tpm_nv.specs.declared.fault.WriteFault.{WriteFault}
use Rattle.tpm_mac.specs.Digest.{digest_size}
use Rattle.tpm_nv.proofs.KeptLaws.{data_long, size_of_type, type_of_writable}
use Rattle.tpm_nv.proofs.AreaLaws.{extended_is}
use Rattle.tpm_nv.proofs.stored_indices.StoredIndicesIndices.extend.Goals as goal

pub set_data-requires-clause-whole : goal.set_data-requires-clause-whole
set_data-requires-clause-whole g c =
    let t = c.in_ok-found.ensures.there in
    let h = c.in_ok-found.found.head.now in
    let size : size_of h ≡ digest_size h.public.name_alg =
    eqb-true _ _
    (size_of_type h.public type.Extend (type_of_writable type.Extend (index_with h t.0) t.2)
    t.1.sized) in
    let many : length c.as_slice.result.now ≡ size_of h =
    ap length c.as_slice.ensures.value ∙ c.extended_digest-digest.ensures.size ∙ sym size in
    rw t.1.found (many, data_long h t.0 0 t.1.long)

pub returns : goal.returns
returns g c =
    let t = c.in_ok-found.ensures.there in
    let h = c.in_ok-found.found.head.now in
    let index = index_with h t.0 in
    let size : size_of h ≡ digest_size h.public.name_alg =
    eqb-true _ _ (size_of_type h.public type.Extend (type_of_writable type.Extend index t.2)
    t.1.sized) in
    let digest = c.extended_digest-digest.result.items in
    let set : c.set_data.new.self ≡ changed_index c.args.self.now c.args.handle
    (with_data index digest) =
    c.set_data.ensures index t.1.found
    ∙ ap (λ (l : List ℕ). changed_index c.args.self.now c.args.handle (with_data index l))
    c.as_slice.ensures.value in
    let ok : NvContents → Result NvContents WriteFault = λ s. Ok s in
    extended_is c.args.self.now c.args.handle h t.0 c.args.bytes.now digest t.1 t.2
    (c.extended_digest-digest.ensures.value c.args.handle t.0 t.1 t.3 size) ∙ ap ok (sym set)

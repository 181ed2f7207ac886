use Rattle.std.proofs.Common.{◌≡◌, ℕ, List, Ok, sym, ap, ◌∙◌, length}
use Rattle.std.specs.Prelude.{Result, bit_or}
use Rattle.std.proofs.lemmas.Bool.{eqb-true}
use Rattle.tpm_types_nv.specs.declared.nv_type.NvType.TheVariants as type
use Rattle.tpm_nv.specs.Access.{with_data}
use Rattle.tpm_nv.specs.Head.{index_with, size_of}
use Rattle.tpm_nv.specs.Index.{NvContents, changed_index}
use Rattle.tpm_nv.specs.declared.fault.WriteFault.{WriteFault}
use Rattle.std.specs.Int.{to_be_bytes, w64}
use Rattle.tpm_nv.proofs.KeptLaws.{data_long, size_of_type, type_of_writable}
use Rattle.tpm_nv.proofs.AreaLaws.{bits_set_is}
use Rattle.tpm_nv.proofs.stored_indices.StoredIndicesIndices.set_bits.Goals as goal

pub set_data-requires-clause-whole : goal.set_data-requires-clause-whole
set_data-requires-clause-whole g c =
    let t = c.in_ok-found.ensures.there in
    let h = c.in_ok-found.found.head.now in
    let size : size_of h ≡ 8 =
    eqb-true _ _
    (size_of_type h.public type.Bits (type_of_writable type.Bits (index_with h t.0) t.2)
    t.1.sized) in
    let many : length c.to_be_bytes.result ≡ size_of h =
    ap length c.to_be_bytes.ensures ∙ sym size in
    rw t.1.found (many, data_long h t.0 0 t.1.long)

pub returns : goal.returns
returns g c =
    let t = c.in_ok-found.ensures.there in
    let h = c.in_ok-found.found.head.now in
    let index = index_with h t.0 in
    let size : size_of h ≡ 8 =
    eqb-true _ _ (size_of_type h.public type.Bits (type_of_writable type.Bits index t.2)
    t.1.sized) in
    let last = c.number.result in
    let set : c.set_data.new.self ≡ changed_index c.args.self.now c.args.handle
    (with_data index (to_be_bytes w64 (bit_or last c.args.bits))) =
    c.set_data.ensures index t.1.found
    ∙ ap (λ (l : List ℕ). changed_index c.args.self.now c.args.handle (with_data index l))
    c.to_be_bytes.ensures in
    let ok : NvContents → Result NvContents WriteFault = λ s. Ok s in
    bits_set_is c.args.self.now c.args.handle h t.0 c.args.bits last t.1 t.2
    (c.number.ensures c.args.handle t.0 t.1 t.3 (t.1.long ∙ size)) ∙ ap ok (sym set)

use Rattle.std.proofs.Common.{Ok, sym, ap, ◌∙◌}
use Rattle.std.specs.Prelude.{Result}
use Rattle.tpm_nv.specs.Head.{index_with}
use Rattle.tpm_nv.specs.Index.{NvContents}
use Rattle.tpm_nv.specs.declared.fault.Undefined.{Undefined}
use Rattle.tpm_nv.proofs.AreaLaws.{with_auth_value_is}
use Rattle.tpm_nv.proofs.stored_indices.StoredIndicesIndices.change_auth.Goals as goal

pub returns : goal.returns
returns g c =
    let t = c.in-Some.ensures.there in
    let h = c.in-Some.field-0.now in
    let ok : NvContents → Result NvContents Undefined = λ s. Ok s in
    with_auth_value_is c.args.self.now c.args.handle h t.0 c.args.value t.1
    ∙ ap ok (sym (c.replace_auth.ensures (index_with h t.0) t.1.found))

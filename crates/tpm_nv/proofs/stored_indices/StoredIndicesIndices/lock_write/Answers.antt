use Rattle.std.proofs.Common.{Ok, sym, ap, ◌∙◌}
use Rattle.std.specs.Prelude.{Result}
use Rattle.tpm_nv.specs.Head.{index_with}
use Rattle.tpm_nv.specs.Index.{NvContents}
use Rattle.tpm_nv.specs.declared.fault.LockFault.{LockFault}
use Rattle.tpm_nv.proofs.AreaLaws.{write_locked_is}
use Rattle.tpm_nv.proofs.stored_indices.StoredIndicesIndices.lock_write.Goals as goal

pub returns : goal.returns
returns g c =
    let t = c.in-Some.ensures.there in
    let h = c.in-Some.head.now in
    let ok : NvContents → Result NvContents LockFault = λ s. Ok s in
    write_locked_is c.args.self.now c.args.handle h t.0 t.1
    (sym c.is_write_lockable.ensures ∙ c.if-not-is_write_lockable.false)
    ∙ ap ok (sym (c.mark.ensures (index_with h t.0) t.1.found))

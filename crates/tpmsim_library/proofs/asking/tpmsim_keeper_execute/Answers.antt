use Rattle.std.proofs.Common.{sym, ap, ◌∙◌, ◌≡◌, not, subst}
use Rattle.std.specs.Prelude.{◌==◌}
use Rattle.std.specs.declared.option.Option.TheVariants.{Some}
use Rattle.tpm_keeping.specs.declared.holder.Job.TheVariants.{Execute}
use Rattle.tpm_kept_device.specs.Texts.{text_at}
use Rattle.tpmsim_library.specs.Keeping.{Begins}
use Rattle.tpmsim_library.proofs.asking.tpmsim_keeper_execute.Goals as goal

-- The keeper begins the call, and is then put back into its holder.
pub returns-in-Ok-clause-begins : goal.returns-in-Ok-clause-begins
returns-in-Ok-clause-begins c =
    let before = c.deref_mut.result.now in
    let was : c.args.holder.now.keeper ≡ Some before =
    c.in-Some-take.ensures.taken ∙ ap Some (sym c.deref_mut.ensures.value) in
    let begun = subst
    (λ l. Begins before.cuts Execute
    (text_at c.args.now_ms l (not (c.args.completes == 0)) c.args.random.now
    c.args.buffer.now) before c.execute-begun.new.self)
    c.in-Some.ensures.1 c.in-Ok.ensures.ok in
    λ done. (before, c.execute-begun.new.self, was, c.put.ensures, begun)

pub returns-in-Err-clause-memory : goal.returns-in-Err-clause-memory
returns-in-Err-clause-memory c =
    let before = c.deref_mut.result.now in
    let was : c.args.holder.now.keeper ≡ Some before =
    c.in-Some-take.ensures.taken ∙ ap Some (sym c.deref_mut.ensures.value) in
    λ refused. (before, was)

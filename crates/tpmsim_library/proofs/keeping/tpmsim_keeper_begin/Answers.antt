use Rattle.std.proofs.Common.{sym, ap, ◌∙◌, ◌≡◌}
use Rattle.std.specs.declared.option.Option.TheVariants.{Some}
use Rattle.tpmsim_library.proofs.keeping.tpmsim_keeper_begin.Goals as goal

-- The keeper begins the call, and is then put back into its holder.
pub returns-in-Ok-clause-begins : goal.returns-in-Ok-clause-begins
returns-in-Ok-clause-begins c =
    let before = c.deref_mut.result.now in
    let was : c.args.holder.now.keeper ≡ Some before =
    c.in-Some-take.ensures.taken ∙ ap Some (sym c.deref_mut.ensures.value) in
    λ done. (
      c.in-Some.job,
      before,
      c.begin-begun.new.self,
      sym c.in-Some.ensures,
      was,
      c.put.ensures,
      c.in-Ok.ensures.ok,
    )

pub returns-in-Err-clause-memory : goal.returns-in-Err-clause-memory
returns-in-Err-clause-memory c =
    let before = c.deref_mut.result.now in
    let was : c.args.holder.now.keeper ≡ Some before =
    c.in-Some-take.ensures.taken ∙ ap Some (sym c.deref_mut.ensures.value) in
    λ refused. (c.in-Some.job, before, sym c.in-Some.ensures, was)

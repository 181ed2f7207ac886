use Rattle.std.proofs.Common.{sym, ap, ◌∙◌, ◌≡◌}
use Rattle.std.specs.declared.option.Option.TheVariants.{Some}
use Rattle.tpmsim_library.proofs.keeping.tpmsim_keeper_next.Goals as goal

-- The keeper is put back into its holder after its step.
pub returns : goal.returns
returns c =
    let before = c.deref_mut.result.now in
    let was : c.args.holder.now.keeper ≡ Some before =
    c.in-Some.ensures.taken ∙ ap Some (sym c.deref_mut.ensures.value) in
    rw was (c.next.new.self, c.put.ensures, c.next.ensures.goes_on, c.next.ensures.cuts)

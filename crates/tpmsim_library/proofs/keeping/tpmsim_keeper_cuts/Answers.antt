use Rattle.std.proofs.Common.{sym, ap, ◌∙◌, ◌≡◌}
use Rattle.std.specs.declared.option.Option.TheVariants.{Some}
use Rattle.tpmsim_library.proofs.keeping.tpmsim_keeper_cuts.Goals as goal

-- The keeper is put back into its holder with the new setting for damage.
pub returns-clause-set : goal.returns-clause-set
returns-clause-set c =
    let before = c.deref_mut.result.now in
    let was : c.args.holder.now.keeper ≡ Some before =
    c.in-Some.ensures.taken ∙ ap Some (sym c.deref_mut.ensures.value) in
    rw was (c.put.ensures ∙ ap Some c.set_cuts.ensures)

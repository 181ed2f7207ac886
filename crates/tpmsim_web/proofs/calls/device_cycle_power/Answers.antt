use Rattle.std.proofs.Common.{sym, ap, ◌∙◌, ◌≡◌}
use Rattle.std.specs.declared.option.Option.TheVariants.{Some}
use Rattle.tpmsim_web.proofs.calls.device_cycle_power.Goals as goal

-- The device is put back into its holder after the event.
pub returns-clause-executes : goal.returns-clause-executes
returns-clause-executes c =
    let before = c.deref_mut.result.now in
    let was : c.args.holder.now.device ≡ Some before =
    c.in-Some.ensures.taken ∙ ap Some (sym c.deref_mut.ensures.value) in
    rw was (
      _,
      c.put.ensures,
      c.cycle_power.ensures.executes,
      c.cycle_power.ensures.history,
      c.cycle_power.ensures.journal,
    )

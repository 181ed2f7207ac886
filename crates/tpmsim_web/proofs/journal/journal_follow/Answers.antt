use Rattle.std.proofs.Common.{sym, ap, ◌∙◌, ◌≡◌}
use Rattle.std.specs.declared.option.Option.TheVariants.{Some}
use Rattle.tpmsim_web.proofs.journal.journal_follow.Goals as goal

-- The device is put back into its holder after it executed the entries.
pub returns : goal.returns
returns c =
    let before = c.deref_mut.result.now in
    let was : c.args.holder.now.device ≡ Some before =
    c.in-Some.ensures.taken ∙ ap Some (sym c.deref_mut.ensures.value) in
    record {
      follows =
          rw was (
            _,
            c.follow-followed.result.fault,
            c.put.ensures,
            c.follow_number.ensures,
            c.follow-followed.ensures,
          );
    }

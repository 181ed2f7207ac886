use Rattle.std.proofs.Common.{sym, ap, ◌∙◌, ◌≡◌}
use Rattle.std.specs.declared.option.Option.TheVariants.{Some}
use Rattle.tpmsim_library.proofs.journal.tpmsim_journal_checkpoint.Goals as goal

-- The device is put back into its holder. Its journal was restarted if the head fitted in the
-- buffer.
pub returns-clause-checkpoints : goal.returns-clause-checkpoints
returns-clause-checkpoints c =
    let before = c.deref_mut.result.now in
    let was : c.args.holder.now.device ≡ Some before =
    c.in-Some.ensures.taken ∙ ap Some (sym c.deref_mut.ensures.value) in
    rw was (_, c.put.ensures, c.checkpoint-size.ensures.checkpoints)

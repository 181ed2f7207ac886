use Rattle.std.proofs.Common.{sym, ap, ◌∙◌, ◌≡◌}
use Rattle.std.specs.declared.option.Option.TheVariants.{Some}
use Rattle.tpmsim_web.proofs.journal.journal_begin.Goals as goal

-- The device is put back into its holder. Its journal was started if the head fitted in the buffer.
pub returns-clause-begins : goal.returns-clause-begins
returns-clause-begins c =
    let before = c.deref_mut.result.now in
    let was : c.args.holder.now.device ≡ Some before =
    c.in-Some.ensures.taken ∙ ap Some (sym c.deref_mut.ensures.value) in
    rw was (_, c.put.ensures, c.begin_journal-size.ensures.begins)

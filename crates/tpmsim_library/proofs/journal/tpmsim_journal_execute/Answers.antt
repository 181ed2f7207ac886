use Rattle.std.proofs.Common.{sym, ap, subst, ◌∙◌, ◌≡◌, not}
use Rattle.std.specs.Prelude.{◌==◌}
use Rattle.std.specs.declared.option.Option.TheVariants.{Some}
use Rattle.tpmsim_library.specs.Journal.{Records, command_by}
use Rattle.tpmsim_library.proofs.journal.tpmsim_journal_execute.Goals as goal

-- The executed command was sent from the locality with this number.
pub returns-clause-records : goal.returns-clause-records
returns-clause-records c =
    let before = c.deref_mut.result.now in
    let was : c.args.holder.now.device ≡ Some before =
    c.in-Some-take.ensures.taken ∙ ap Some (sym c.deref_mut.ensures.value) in
    let told = subst
    (λ l. Records before
    (command_by before c.args.buffer.now l c.args.now_ms (not (c.args.completes == 0))
    c.args.random.now) c.execute_recorded.new.response
    c.execute_recorded.new.answered c.execute_recorded.result c.execute_recorded.new.entry
    c.execute_recorded.new.self)
    c.in-Some.ensures.1 c.execute_recorded.ensures.records in
    λ _. (before, c.execute_recorded.new.self, was, c.put.ensures, told)

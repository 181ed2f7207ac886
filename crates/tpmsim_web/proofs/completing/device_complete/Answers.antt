use Rattle.std.proofs.Common.{sym, ap, subst, ◌∙◌, ◌≡◌, false, true}
use Rattle.std.specs.declared.option.Option.TheVariants.{Some}
use Rattle.tpm_completion.specs.Execution.{CompletesIf}
use Rattle.tpm_step.specs.step.Events.{Given, plain_event}
use Rattle.tpmsim_web.specs.Journal.{seen_in}
use Rattle.tpmsim_web.specs.State.{record_of}
use Rattle.tpmsim_web.proofs.completing.device_complete.Goals as goal

-- The executed event is the command, sent from the locality with this number.
pub returns-clause-completes : goal.returns-clause-completes
returns-clause-completes c =
    let before = c.deref_mut.result.now in
    let after = c.complete.new.self in
    let was : c.args.holder.now.device ≡ Some before =
    c.in-Some-take.ensures.taken ∙ ap Some (sym c.deref_mut.ensures.value) in
    let seen = seen_in c.complete.new.response c.complete.result after in
    let told = subst
    (λ e. CompletesIf false true before.journal.layer (record_of before) (plain_event e) seen)
    c.of_command-event.ensures.value c.complete.ensures.completes in
    let all = subst
    (λ l. CompletesIf false true before.journal.layer (record_of before)
    (Given c.args.buffer.now l c.args.elapsed_ms c.args.random.now) seen)
    c.in-Some.ensures.1 told in
    λ _. (before, after, was, c.put.ensures, all, c.complete.ensures.journal)

use Rattle.std.proofs.Common.{sym, ap, subst, ◌∙◌, ◌≡◌, false}
use Rattle.std.specs.declared.option.Option.TheVariants.{Some}
use Rattle.tpm_machine.specs.Follows.{After, Follows}
use Rattle.tpm_machine.specs.Drawn.{drawn_by}
use Rattle.tpm_step.specs.step.Events.{Given, plain_event}
use Rattle.tpm_step.specs.step.Execution.{Executes}
use Rattle.tpm_step.specs.step.Step.{Stepped}
use Rattle.tpm_step.specs.declared.event.Row.{Row}
use Rattle.tpm_text.specs.Trace.{trace_text}
use Rattle.std.specs.Prelude.{take}
use Rattle.tpmsim_web.specs.State.{command_seen, record_of}
use Rattle.tpmsim_web.proofs.calls.device_execute.Goals as goal

-- The executed event is the command, sent from the locality with this number.
pub returns-clause-executes : goal.returns-clause-executes
returns-clause-executes c =
    let before = c.deref_mut.result.now in
    let was : c.args.holder.now.device ≡ Some before =
    c.in-Some-take.ensures.taken ∙ ap Some (sym c.deref_mut.ensures.value) in
    let done : Stepped = command_seen c.execute.new.response c.execute.result c.execute.new.self in
    let told = subst
    (λ e. Executes false (record_of before) (plain_event e) done
    × After Follows (record_of before) (plain_event e) done
    × (c.execute.result.drawn ≡ drawn_by (record_of before) (plain_event e) c.execute.result.check))
    c.of_command-event.ensures.value (
      c.execute.ensures.executes,
      c.execute.ensures.history,
      c.execute.ensures.drawn,
    ) in
    let all = subst
    (λ l. Executes false (record_of before)
    (Given c.args.buffer.now l c.args.elapsed_ms c.args.random.now) done
    × After Follows (record_of before)
    (Given c.args.buffer.now l c.args.elapsed_ms c.args.random.now) done
    × (c.execute.result.drawn ≡ drawn_by (record_of before)
    (Given c.args.buffer.now l c.args.elapsed_ms c.args.random.now) c.execute.result.check))
    c.in-Some.ensures.1 told in
    λ _. (
      before,
      c.execute.new.self,
      was,
      c.put.ensures,
      all.0,
      all.1,
      all.2,
      c.execute.ensures.journal,
    )

-- the written trace is the trace of this event
pub returns-clause-traced : goal.returns-clause-traced
returns-clause-traced c =
    let row : Row = record { code = c.execute.result.code; check = c.execute.result.check } in
    let written = take c.execute.result.traced c.execute.new.trace in
    let response = take c.execute.result.size c.execute.new.response in
    let told = subst (λ e. written ≡ trace_text (plain_event e) row response)
    c.of_command-event.ensures.value c.execute.ensures.traced in
    let all =
    subst (λ l. written ≡ trace_text
    (Given c.args.buffer.now l c.args.elapsed_ms c.args.random.now) row response)
    c.in-Some.ensures.1 told in
    λ _. all

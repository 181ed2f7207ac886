use Rattle.std.proofs.Common.{ℕ, List, subst}
use Rattle.tpm_machine.specs.State.{state_of}
use Rattle.tpm_step.specs.step.Events.{Given, PlainEvent, plain_event}
use Rattle.tpm_step.specs.declared.event.Event.{Event}
use Rattle.tpm_types_common.specs.Locality.{locality_number}
use Rattle.tpm_completion.specs.Execution.{Passes, Seen, seen_of}
use Rattle.tpm_completion.specs.Saving.{Reply}
use Rattle.tpm_completion.proofs.SentEffect.{sent_is}
use Rattle.tpm_completion.proofs.execution.send.Goals as goal

pub returns : goal.returns
returns g c buffer =
    let first : Seen = seen_of g.K.Keep.record_of c.args.machine.now c.args.layer.now
    c.args.outcome.now in
    let second : Seen = seen_of g.K.Keep.record_of c.pass.new.machine c.pass.new.layer
    c.pass.new.outcome in
    let reply : Reply =
    record { response = c.answer_sent.new.text.items; after = c.answer_sent.new.self } in
    let Passed : PlainEvent → Type 0 =
    λ event. Passes g.K.Keep.can_refuse c.args.layer.now
    (state_of g.K.Keep.record_of c.args.machine.now) event second in
    let passed = subst (λ (event : Event). Passed (plain_event event))
    c.of_command-event.ensures.value c.pass.ensures.passes in (
      second,
      subst (λ (bytes : List ℕ). Passed
          (Given bytes (locality_number c.args.locality) 0 c.args.random.now))
          c.as_slice.ensures.value passed,
      sent_is first second c.args.sent.now reply
          c.answer_sent.ensures,
    )

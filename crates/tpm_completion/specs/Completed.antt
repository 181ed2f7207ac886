-- If no allocation fails, the effect of one event is a function of the layer, the record and the
-- event. This file defines it, with and without the completing layer.
use Rattle.std.specs.Prelude.{ℕ, Bool, true, false, List, Option, Some, None, Result, Ok, Err}
use Rattle.tpm_machine.specs.Drawn.{drawn_by}
use Rattle.tpm_object.specs.declared.object.Object.{Object}
use Rattle.tpm_record.specs.Record.{Record}
use Rattle.tpm_step.specs.step.Events.{PlainEvent, Given, Cycled, Placed}
use Rattle.tpm_step.specs.step.Step.{step}
use Rattle.tpm_context.specs.declared.fault.ContextFault.{ContextFault}
use Rattle.tpm_completion.specs.Completion.{forgotten}
use Rattle.tpm_completion.specs.Execution.{Seen, asked_after, effect_with_reply, opened_after, placed_after, reply_after, sent_after, sent_effect, sent_event, unopened_after}
use Rattle.tpm_completion.specs.Hiding.{heard}
use Rattle.tpm_completion.specs.declared.completion.Completion.{Completion}
use Rattle.tpm_completion.specs.declared.sending.Sent.{Sent}

-- the effect of an event that the device executes without the layer
unfoldable pub device_effect : Completion → Record → PlainEvent → Seen
device_effect c old event = record {
  step = step old event;
  layer = forgotten (step old event).after c;
  drawn = drawn_by old event (step old event).row.check;
}

-- the effect of loading the object in a context, or of refusing the context, after the device
-- refused the command
abbrev pub loaded_after : Seen → Result Object ContextFault → Seen
loaded_after first (Ok object) = placed_after first (step first.step.after (Placed object))
loaded_after first (Err fault) = unopened_after first fault

-- the effect after the device refused a command: the device executes the command that the layer
-- sends or, if there is none, the layer may answer
abbrev pub sending_after : Seen → (buffer : List ℕ) → (locality : ℕ) → (random : List ℕ)
    → Option Sent → Seen
sending_after first buffer locality random (Some sent) =
    sent_effect first (device_effect first.layer first.step.after (sent_event sent locality random))
    sent
sending_after first buffer locality random None = effect_with_reply first (reply_after first buffer)

-- the effect after the device has executed a command: the context of an object is loaded, or the
-- layer sends a command to the device, or it may answer
abbrev pub done_after : Seen → (buffer : List ℕ) → (locality : ℕ) → (random : List ℕ)
    → Option (List ℕ) → Seen
done_after first buffer locality random (Some context) =
    loaded_after first (opened_after first context)
done_after first buffer locality random None =
    sending_after first buffer locality random (sent_after first buffer)

abbrev pub completed_after : Seen → (buffer : List ℕ) → (locality : ℕ) → (random : List ℕ) → Seen
completed_after first buffer locality random =
    done_after first buffer locality random (asked_after first buffer)

abbrev pub completed_with : Completion → Record → PlainEvent → Seen
completed_with c old (Given buffer locality elapsed random) =
    completed_after (device_effect c old (Given buffer locality elapsed random)) buffer locality
    random
completed_with c old Cycled = device_effect c old Cycled
completed_with c old (Placed object) = device_effect c old (Placed object)

-- the effect of an event: with the layer if `completes` is true, otherwise without it. With the
-- layer, the device gets the event in which saved sessions are hidden
abbrev pub completed_effect : (completes : Bool) → Completion → Record → PlainEvent → Seen
completed_effect false c old event = device_effect c old event
completed_effect true c old event = completed_with c old (heard c event)

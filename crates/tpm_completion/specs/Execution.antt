-- How the completing layer handles one event: what the device executes, what the client gets, and
-- the layer's new state.
use Rattle.std.specs.Prelude.{◌≡◌, ℕ, ◌==◌, Bool, true, false, List, Option, Some, None, Result, Ok, Err}
use Rattle.tpm_machine.specs.Follows.{After, Follows}
use Rattle.tpm_machine.specs.Drawn.{drawn_by}
use Rattle.tpm_machine.specs.State.{latest_drawn, state_of}
use Rattle.tpm_machine.specs.declared.machine.Machine.{Machine}
use Rattle.tpm_object.specs.declared.object.Object.{Object}
use Rattle.tpm_record.specs.Objects.{next_handle}
use Rattle.tpm_record.specs.Record.{Record}
use Rattle.tpm_step.specs.step.Events.{PlainEvent, Given, Cycled, Placed}
use Rattle.tpm_step.specs.step.Execution.{Executes}
use Rattle.tpm_step.specs.step.Step.{Stepped, outcome_step}
use Rattle.tpm_step.specs.declared.event.Outcome.{Outcome}
use Rattle.tpm_types_common.specs.Rc.{rc_number}
use Rattle.tpm_context.specs.Head.{fault_rc}
use Rattle.tpm_context.specs.declared.fault.ContextFault.{ContextFault}
use Rattle.tpm_completion.specs.Completion.{forgotten}
use Rattle.tpm_completion.specs.Hiding.{heard}
use Rattle.tpm_completion.specs.Loading.{context_asked, object_opened, placed_reply}
use Rattle.tpm_completion.specs.Reply.{reply}
use Rattle.tpm_completion.specs.Saving.{Reply, refusal_reply}
use Rattle.tpm_completion.specs.Sending.{sent_for, sent_reply}
use Rattle.tpm_completion.specs.declared.completion.Completion.{Completion}
use Rattle.tpm_completion.specs.declared.sending.Sent.{Sent}

-- the effect of an event: the response; the device's row and new record; the layer's new state; and
-- the number of random bytes that the device's last event drew
pub record Seen : Type 0 where
  pub step : Stepped
  pub layer : Completion
  pub drawn : ℕ

-- the effect that a machine, a layer and an outcome represent
abbrev pub seen_of : {K S O P N : Type 0} → (K → Record) → Machine K S O P N → Completion → Outcome
    → Seen
seen_of record_of machine layer outcome = record {
  step = outcome_step (state_of record_of machine) outcome;
  layer = layer;
  drawn = latest_drawn machine;
}

-- the same effect, except that the response and the layer's new state are those of a reply
abbrev pub effect_with_reply : Seen → Reply → Seen
effect_with_reply seen reply = record {
  step = record seen.step { response = reply.response };
  layer = reply.after;
  drawn = seen.drawn;
}

-- The device executes an event without the layer. If the device followed a history, it now follows
-- that history extended by the event. The layer's state only loses contexts of sessions that no
-- longer exist and, if the device is not started, the sequence objects (`forgotten`).
pub record Passes (can : Bool) (c : Completion) (old : Record) (event : PlainEvent) (seen : Seen)
    : Type 0
  where
    pub executes : Executes can old event seen.step
    pub history : After Follows old event seen.step
    pub layer : seen.layer ≡ forgotten seen.step.after c
    pub drawn : seen.drawn ≡ drawn_by old event seen.step.row.check

-- ---- a command that loads the context of an object

-- the object in the context that a command is to load, or why it cannot be loaded; `first` is the
-- command's effect on the device
abbrev pub opened_after : Seen → (context : List ℕ) → Result Object ContextFault
opened_after first context = object_opened first.step.after first.layer context

-- the effect of refusing the context: an error response, and no other change
abbrev pub unopened_after : Seen → ContextFault → Seen
unopened_after first fault =
    effect_with_reply first (refusal_reply first.layer (rc_number (fault_rc fault)))

-- the effect after the device has placed the object. The row remains that of the client's command,
-- which the device refused
abbrev pub placed_after : Seen → (placing : Stepped) → Seen
placed_after first placing =
    let reply : Reply = placed_reply first.layer (next_handle first.step.after.objects) in
    record {
      step = record first.step { response = reply.response; after = placing.after };
      layer = reply.after;
      drawn = 0;
    }

-- the effect if memory for the object ran out: the response is MEMORY (904), and the device and the
-- layer are unchanged
abbrev pub unplaced_after : Seen → Seen
unplaced_after first =
    record (effect_with_reply first (refusal_reply first.layer 0x904)) { drawn = 0 }

-- After a command with the effect `first`, the device executes the event that places an object.
pub record ExecutesPlacing (can : Bool) (first : Seen) (object : Object) (placing : Stepped) : Type 0
  where
    pub executes : Executes can first.step.after (Placed object) placing
    pub history : After Follows first.step.after (Placed object) placing

-- Either the device places an object, or memory runs out (`refused`). The latter is possible only
-- if `can` is true.
abbrev pub PlacesIf : (can refused : Bool) → Seen → Object → Seen → Type 0
PlacesIf can false first object seen =
    (placing : Stepped) × ExecutesPlacing can first object placing
    × (seen ≡ placed_after first placing)
PlacesIf can true first object seen = (can ≡ true) × (seen ≡ unplaced_after first)

-- After the device refused a TPM2_ContextLoad, the object in the context is placed, or the context
-- is refused.
abbrev pub Loads : (can : Bool) → Seen → Result Object ContextFault → Seen → Type 0
Loads can first (Ok object) seen = (refused : Bool) × PlacesIf can refused first object seen
Loads can first (Err fault) seen = seen ≡ unopened_after first fault

-- ---- a command for which the layer sends a command to the device

-- the command that the layer sends, if any; `first` is the effect of the client's command on the
-- device
abbrev pub sent_after : Seen → (buffer : List ℕ) → Option Sent
sent_after first buffer =
    sent_for first.step.after first.layer buffer first.step.response

-- the event of the command that the layer sends. No time passes between the client's command and
-- this one. The command gets the client's random bytes, `random`, all of which are still unused:
-- the device drew none of them when it refused the client's command
abbrev pub sent_event : Sent → (locality : ℕ) → (random : List ℕ) → PlainEvent
sent_event sent locality random = Given sent.command locality 0 random

-- the effect after the device executed the command that the layer sent; `second` is that command's
-- own effect. The row remains that of the client's command, which the device refused
abbrev pub sent_effect : (first second : Seen) → Sent → Seen
sent_effect first second sent =
    let reply : Reply =
    sent_reply second.layer (second.step.row.check == 0) sent second.step.response in
    record {
      step = record second.step { response = reply.response; row = first.step.row };
      layer = reply.after;
      drawn = second.drawn;
    }

-- ---- any command

-- the context of the object that a command is to load, if any; `first` is the command's effect on
-- the device
abbrev pub asked_after : Seen → (buffer : List ℕ) → Option (List ℕ)
asked_after first buffer = context_asked first.step.after buffer first.step.response

-- the layer's answer to a command that loads no object; `first` is the command's effect on the
-- device
abbrev pub reply_after : Seen → (buffer : List ℕ) → Reply
reply_after first buffer =
    reply first.step.after first.layer buffer first.step.response (first.step.row.check == 0)

-- After the device refused a command, it executes the command that the layer sends, if there is
-- one. Otherwise, the layer answers, or the client gets the device's response.
abbrev pub Sends : (can : Bool) → Seen → (buffer : List ℕ) → (locality : ℕ) → (random : List ℕ)
    → Option Sent → Seen → Type 0
Sends can first buffer locality random (Some sent) seen =
    (second : Seen)
    × Passes can first.layer first.step.after (sent_event sent locality random) second
    × (seen ≡ sent_effect first second sent)
Sends can first buffer locality random None seen =
    seen ≡ effect_with_reply first (reply_after first buffer)

-- After the device has executed a command, the context of an object is loaded, or the layer sends a
-- command to the device, or the layer answers, or the client gets the device's response.
abbrev pub LoadsOrSends : (can : Bool) → Seen → (buffer : List ℕ) → (locality : ℕ)
    → (random : List ℕ) → Option (List ℕ) → Seen → Type 0
LoadsOrSends can first buffer locality random (Some context) seen =
    Loads can first (opened_after first context) seen
LoadsOrSends can first buffer locality random None seen =
    Sends can first buffer locality random (sent_after first buffer) seen

-- The device executes the command first, and the layer may answer afterwards.
abbrev pub AsksFirst : Bool → Completion → Record → (buffer : List ℕ) → (locality elapsed : ℕ)
    → List ℕ → Seen → Type 0
AsksFirst can c old buffer locality elapsed random seen =
    (first : Seen) × Passes can c old (Given buffer locality elapsed random) first
    × LoadsOrSends can first buffer locality random (asked_after first buffer) seen

-- An event has this effect with the layer. The device alone executes a power cycle or a placed
-- object.
abbrev pub Completes : Bool → Completion → Record → PlainEvent → Seen → Type 0
Completes can c old (Given buffer locality elapsed random) seen =
    AsksFirst can c old buffer locality elapsed random seen
Completes can c old Cycled seen = Passes can c old Cycled seen
Completes can c old (Placed object) seen = Passes can c old (Placed object) seen

-- An event has this effect: with the layer if `completes` is true, otherwise without it. With the
-- layer, the device gets the event in which saved sessions are hidden.
abbrev pub CompletesIf : (can completes : Bool) → Completion → Record → PlainEvent → Seen → Type 0
CompletesIf can false c old event seen = Passes can c old event seen
CompletesIf can true c old event seen = Completes can c old (heard c event) seen

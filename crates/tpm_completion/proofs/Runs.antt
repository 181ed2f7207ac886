-- The device's executions for one event begin with its record before the event and end with its
-- record after the event.
use Rattle.std.proofs.Common.{◌≡◌, ℕ, Bool, true, false, List, Option, Some, None, Result, Ok, Err, refl, ap}
use Rattle.tpm_machine.specs.Executions.{Leads}
use Rattle.tpm_machine.proofs.Following.{stretch_follows}
use Rattle.tpm_object.specs.declared.object.Object.{Object}
use Rattle.tpm_record.specs.Record.{Record}
use Rattle.tpm_step.specs.step.Events.{PlainEvent, Given, Cycled, Placed}
use Rattle.tpm_context.specs.declared.fault.ContextFault.{ContextFault}
use Rattle.tpm_completion.specs.Execution.{AsksFirst, LoadsOrSends, Completes, CompletesIf, Loads, PlacesIf, Seen, Sends, asked_after, opened_after, sent_after}
use Rattle.tpm_completion.specs.Run.{RunsFollow, run_after, run_command, run_loading, run_of, run_placing, run_sending, run_with}
use Rattle.tpm_completion.specs.Hiding.{heard}
use Rattle.tpm_completion.specs.declared.completion.Completion.{Completion}
use Rattle.tpm_completion.specs.declared.sending.Sent.{Sent}

after_is : (seen other : Seen) → seen ≡ other → seen.step.after ≡ other.step.after
after_is seen other is = ap (λ (s : Seen). s.step.after) is

placing_leads : (can refused : Bool) (first : Seen) (object : Object) (seen : Seen)
    (places : PlacesIf can refused first object seen)
    → Leads can first.step.after (run_placing can refused first object seen places) seen.step.after
placing_leads can false first object seen (placing, places, is) =
    (refl, places.executes, after_is seen _ is)
placing_leads can true first object seen (may, is) = after_is seen _ is

loading_leads : (can : Bool) (first : Seen) (opened : Result Object ContextFault) (seen : Seen)
    (loads : Loads can first opened seen)
    → Leads can first.step.after (run_loading can first opened seen loads) seen.step.after
loading_leads can first (Ok object) seen (refused, places) =
    placing_leads can refused first object seen places
loading_leads can first (Err fault) seen is = after_is seen _ is

sending_leads : (can : Bool) (first : Seen) (buffer : List ℕ) (locality : ℕ) (random : List ℕ)
    (sent : Option Sent) (seen : Seen) (sends : Sends can first buffer locality random sent seen)
    → Leads can first.step.after (run_sending can first buffer locality random sent seen sends)
    seen.step.after
sending_leads can first buffer locality random (Some sent) seen (second, passes, is) =
    (refl, passes.executes, after_is seen _ is)
sending_leads can first buffer locality random None seen is = after_is seen _ is

after_leads : (can : Bool) (first : Seen) (buffer : List ℕ) (locality : ℕ) (random : List ℕ)
    (asked : Option (List ℕ)) (seen : Seen)
    (rest : LoadsOrSends can first buffer locality random asked seen)
    → Leads can first.step.after (run_after can first buffer locality random asked seen rest)
    seen.step.after
after_leads can first buffer locality random (Some context) seen loads =
    loading_leads can first (opened_after first context) seen loads
after_leads can first buffer locality random None seen sends =
    sending_leads can first buffer locality random (sent_after first buffer) seen sends

command_leads : (can : Bool) (c : Completion) (old : Record) (buffer : List ℕ)
    (locality elapsed : ℕ) (random : List ℕ) (seen : Seen)
    (asks : AsksFirst can c old buffer locality elapsed random seen)
    → Leads can old (run_command can c old buffer locality elapsed random seen asks) seen.step.after
command_leads can c old buffer locality elapsed random seen (first, passes, rest) = (
  refl,
  passes.executes,
  after_leads can first buffer locality random (asked_after first buffer)
      seen rest,
)

with_leads : (can : Bool) (c : Completion) (old : Record) (event : PlainEvent) (seen : Seen)
    (completes : Completes can c old event seen)
    → Leads can old (run_with can c old event seen completes) seen.step.after
with_leads can c old (Given buffer locality elapsed random) seen completes =
    command_leads can c old buffer locality elapsed random seen completes
with_leads can c old Cycled seen passes = (refl, passes.executes, refl)
with_leads can c old (Placed object) seen passes = (refl, passes.executes, refl)

pub run_leads : (can completes : Bool) (c : Completion) (old : Record) (event : PlainEvent)
    (seen : Seen) (is : CompletesIf can completes c old event seen)
    → Leads can old (run_of can completes c old event seen is) seen.step.after
run_leads can false c old event seen passes = (refl, passes.executes, refl)
run_leads can true c old event seen completes =
    with_leads can c old (heard c event) seen completes

pub runs_follow : RunsFollow
runs_follow can completes c old event seen history is follows =
    stretch_follows can old (run_of can completes c old event seen is) seen.step.after history
    (run_leads can completes c old event seen is) follows

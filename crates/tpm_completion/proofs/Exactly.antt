-- If no allocation fails, `completed_effect` defines the effect of an event.
use Rattle.std.proofs.Common.{◌≡◌, ℕ, Bool, true, false, List, Option, Some, None, Result, Ok, Err, refl, ap, sym, ◌∙◌}
use Rattle.std.proofs.lemmas.Bool.{false≢true}
use Rattle.tpm_machine.specs.Drawn.{drawn_by}
use Rattle.tpm_object.specs.declared.object.Object.{Object}
use Rattle.tpm_record.specs.Record.{Record}
use Rattle.tpm_step.specs.step.Events.{PlainEvent, Given, Cycled, Placed}
use Rattle.tpm_step.specs.step.Step.{Stepped, step}
use Rattle.tpm_context.specs.declared.fault.ContextFault.{ContextFault}
use Rattle.tpm_completion.specs.Completed.{completed_after, completed_effect, completed_with, device_effect, done_after, loaded_after, sending_after}
use Rattle.tpm_completion.specs.Completion.{forgotten}
use Rattle.tpm_completion.specs.Execution.{AsksFirst, LoadsOrSends, Completes, CompletesIf, Loads, Passes, PlacesIf, Seen, Sends, asked_after, opened_after, placed_after, sent_after, sent_effect, sent_event}
use Rattle.tpm_completion.specs.Hiding.{heard}
use Rattle.tpm_completion.specs.declared.completion.Completion.{Completion}
use Rattle.tpm_completion.specs.declared.sending.Sent.{Sent}

same : (c l : Completion) (old : Record) (event : PlainEvent) (x : Stepped) (d : ℕ)
    → x ≡ step old event → l ≡ forgotten x.after c → d ≡ drawn_by old event x.row.check
    → record { step = x; layer = l; drawn = d } ≡ device_effect c old event
unfolding device_effect
same c l old event x d is layer drawn = rw (layer, drawn, is) refl

pub passes_exactly : (c : Completion) (old : Record) (event : PlainEvent) (seen : Seen)
    → Passes false c old event seen → seen ≡ device_effect c old event
passes_exactly c old event seen p =
    same c seen.layer old event seen.step seen.drawn (p.executes.exactly refl) p.layer p.drawn

places_exactly : (refused : Bool) (first : Seen) (object : Object) (seen : Seen)
    → PlacesIf false refused first object seen → seen ≡ loaded_after first (Ok object)
places_exactly false first object seen (placing, places, is) =
    is ∙ ap (placed_after first) (places.executes.exactly refl)
places_exactly true first object seen (may, is) = absurd (false≢true may)

loads_exactly : (first : Seen) (opened : Result Object ContextFault) (seen : Seen)
    → Loads false first opened seen → seen ≡ loaded_after first opened
loads_exactly first (Ok object) seen (refused, places) =
    places_exactly refused first object seen places
loads_exactly first (Err fault) seen is = is

sends_exactly : (first : Seen) (buffer : List ℕ) (locality : ℕ) (random : List ℕ)
    (sent : Option Sent) (seen : Seen) → Sends false first buffer locality random sent seen
    → seen ≡ sending_after first buffer locality random sent
sends_exactly first buffer locality random (Some sent) seen (second, p, is) =
    is ∙ ap (λ (s : Seen). sent_effect first s sent)
    (passes_exactly first.layer first.step.after (sent_event sent locality random) second p)
sends_exactly first buffer locality random None seen is = is

after_exactly : (first : Seen) (buffer : List ℕ) (locality : ℕ) (random : List ℕ)
    (asked : Option (List ℕ)) (seen : Seen)
    → LoadsOrSends false first buffer locality random asked seen
    → seen ≡ done_after first buffer locality random asked
after_exactly first buffer locality random (Some context) seen loads =
    loads_exactly first (opened_after first context) seen loads
after_exactly first buffer locality random None seen sends =
    sends_exactly first buffer locality random (sent_after first buffer) seen sends

asks_first_exactly : (c : Completion) (old : Record) (buffer : List ℕ) (locality elapsed : ℕ)
    (random : List ℕ) (seen : Seen) → AsksFirst false c old buffer locality elapsed random seen
    → seen ≡ completed_with c old (Given buffer locality elapsed random)
asks_first_exactly c old buffer locality elapsed random seen (first, p, b) =
    after_exactly first buffer locality random (asked_after first buffer) seen b
    ∙ ap (λ (f : Seen). completed_after f buffer locality random)
    (passes_exactly c old (Given buffer locality elapsed random) first p)

pub completes_exactly : (c : Completion) (old : Record) (event : PlainEvent) (seen : Seen)
    → Completes false c old event seen → seen ≡ completed_with c old event
completes_exactly c old (Given buffer locality elapsed random) seen x =
    asks_first_exactly c old buffer locality elapsed random seen x
completes_exactly c old Cycled seen x = passes_exactly c old Cycled seen x
completes_exactly c old (Placed object) seen x = passes_exactly c old (Placed object) seen x

-- if `can` is false, `completed_effect` defines the effect of an event, with or without the layer
pub exactly : (can completes : Bool) (c : Completion) (old : Record) (event : PlainEvent)
    (seen : Seen) → CompletesIf can completes c old event seen → can ≡ false
    → seen ≡ completed_effect completes c old event
exactly false false c old event seen is never = passes_exactly c old event seen is
exactly false true c old event seen is never = completes_exactly c old (heard c event) seen is
exactly true completes c old event seen is never = absurd (false≢true (sym never))

-- a case distinction: the event is executed without the layer, or with it
pub completes_by_cases : (can completes : Bool) (c : Completion) (old : Record) (event : PlainEvent)
    (seen : Seen) → (completes ≡ false → Passes can c old event seen)
    → (completes ≡ true → Completes can c old (heard c event) seen)
    → CompletesIf can completes c old event seen
completes_by_cases can false c old event seen off on = off refl
completes_by_cases can true c old event seen off on = on refl

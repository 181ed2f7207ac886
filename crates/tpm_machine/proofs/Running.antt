-- Lemmas about runs of events, by induction from the last event to the first.
use Rattle.std.proofs.Common.{◌≡◌, ◌+◌, ◌<◌, ℕ, List, [], ◌∷◌, length, map, drop, get_or, Bool, true, false, Bor, refl, ap, sym, ◌∙◌}
use Rattle.std.proofs.lemmas.Bool.{false≢true}
use Rattle.std.proofs.lemmas.List.{drop_more}
use Rattle.std.specs.Fn.{Mut, CalledAt}
use Rattle.tpm_record.specs.Record.{Record}
use Rattle.tpm_step.specs.step.Events.{PlainEvent, plain_event}
use Rattle.tpm_step.specs.step.Execution.{Executes}
use Rattle.tpm_step.specs.step.Run.{Runs, after_all}
use Rattle.tpm_step.specs.step.Step.{Stepped, Steps, outcome_step, step}
use Rattle.tpm_step.specs.declared.event.Event.{Event}
use Rattle.tpm_step.specs.declared.event.Outcome.{Outcome}

-- executing event i, followed by a run of the later events, is a run of the events from i on
pub run_more : {F : Type 0} {g : Mut F (Bor Outcome × Unit {0}) (Unit {0})} (can : Bool)
    (old mid new : Record) {p next : F} (q : F) (events : List Event) (i : ℕ) (event : Event)
    (outcome : Outcome) → i < length events → event ≡ get_or events i event
    → Executes can old (plain_event event) (outcome_step mid outcome) → CalledAt g p outcome tt next
    → Runs g can mid next (map plain_event (drop (i + 1) events)) new q
    → Runs g can old p (map plain_event (drop i events)) new q
run_more can old mid new q events i event outcome below is executed called rest =
    rw (drop_more events i event below, ← is) (outcome, _, _, executed, called, rest)

-- if no allocation can fail, the execution of an event has exactly the outcome that `step` defines
pub exactly : (can : Bool) (old : Record) (event : PlainEvent) (x : Stepped) → can ≡ false
    → Steps can old event x → x ≡ step old event
exactly can old event x cannot (false, only, is) = is
exactly can old event x cannot (true, only, is) = absurd (false≢true (sym cannot ∙ only refl))

-- if no allocation can fail, a run ends in the record that the steps of its events produce
pub runs_lead : {F : Type 0} (g : Mut F (Bor Outcome × Unit {0}) (Unit {0})) (can : Bool)
    (old : Record) (p : F) (events : List PlainEvent) (new : Record) (q : F)
    → Runs g can old p events new q → can ≡ false → new ≡ after_all old events
runs_lead g can old p [] new q run cannot = run.0
runs_lead g can old p (event ∷ events) new q run cannot =
    runs_lead g can run.1 run.2 events new q run.5 cannot
    ∙ ap (λ (x : Stepped). after_all x.after events) (run.3.exactly cannot)

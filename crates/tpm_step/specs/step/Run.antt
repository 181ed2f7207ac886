-- Runs: events that are executed one after another, and a closure that is called with each outcome.
use Rattle.std.specs.Prelude.{◌≡◌, Bool, List, [], ◌∷◌}
use Rattle.std.specs.Borrow.{Bor}
use Rattle.std.specs.Fn.{Mut, CalledAt}
use Rattle.tpm_record.specs.Record.{Record}
use Rattle.tpm_step.specs.step.Events.{PlainEvent}
use Rattle.tpm_step.specs.step.Execution.{Executes}
use Rattle.tpm_step.specs.step.Step.{outcome_step, step}
use Rattle.tpm_step.specs.declared.event.Outcome.{Outcome}

-- Executing the events one after another led from the old record to the new one. A closure was
-- called with each outcome, in order; its state was p before and q after. `can` says whether an
-- allocation can fail.
abbrev pub Runs : {F : Type 0} → Mut F (Bor Outcome × Unit {0}) (Unit {0})
    → Bool → Record → F → List PlainEvent → Record → F → Type 0
Runs g can old p [] new q = (new ≡ old) × (q ≡ p)
Runs {F} g can old p (event ∷ events) new q =
    (outcome : Outcome) × (mid : Record) × (next : F)
    × Executes can old event (outcome_step mid outcome)
    × CalledAt g p outcome tt next × Runs g can mid next events new q

-- the record after all these events
abbrev pub after_all : Record → List PlainEvent → Record
after_all r [] = r
after_all r (event ∷ events) = after_all (step r event).after events

-- Histories without placed objects. The device itself places none: only the completing layer does,
-- when it loads a saved context.
use Rattle.std.specs.Prelude.{◌≡◌, ℕ, Bool, true, false, [], ◌∷◌}
use Rattle.tpm_record.specs.Record.{Record}
use Rattle.tpm_step.specs.declared.event.Event as declared
use Rattle.tpm_step.specs.step.Events.{plain_event}
use Rattle.tpm_step.specs.history.History.{Done, History, ObjectPlaced, PowerCycled, extended_history}

-- whether an object was placed
abbrev pub has_placed : History → Bool
has_placed [] = false
has_placed (Done command ∷ history) = has_placed history
has_placed (PowerCycled ∷ history) = has_placed history
has_placed (ObjectPlaced at object ∷ history) = true

-- No event that `Machine::execute` or `Machine::run` can be passed places an object: whatever the
-- device and the row's check, the history has a placed object after the event exactly if it had one
-- before.
abbrev pub PlacesNothing : Type 0
PlacesNothing = (r : Record) (event : declared.Event) (check : ℕ) (history : History)
    → has_placed (extended_history r (plain_event event) check history) ≡ has_placed history

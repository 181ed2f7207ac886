-- No command and no power cycle places an object.
use Rattle.std.proofs.Common.{◌≡◌, ℕ, zero, suc, Result, Ok, Err, refl}
use Rattle.tpm_record.specs.Record.{Record}
use Rattle.tpm_record.specs.Tick.{after_tick}
use Rattle.tpm_types_common.specs.Locality.{locality_number}
use Rattle.tpm_step.specs.declared.event.Event.TheVariants as event
use Rattle.tpm_step.specs.declared.refused_command.RefusedCommand.{RefusedCommand}
use Rattle.tpm_step.specs.step.Step.{Accepted, acceptance_in}
use Rattle.tpm_step.specs.history.History.{History, with_command}
use Rattle.tpm_step.specs.history.Placings.{PlacesNothing, has_placed}

command_places : (r : Record) (accepted : Result Accepted RefusedCommand) (check : ℕ)
    (history : History) → has_placed (with_command r accepted check history) ≡ has_placed history
command_places r (Ok a) zero history = refl
command_places r (Ok a) (suc check) history = refl
command_places r (Err e) check history = refl

pub places_nothing : PlacesNothing
places_nothing r (event.Command buffer locality elapsed random) check history =
    let t = after_tick r elapsed in
    command_places t (acceptance_in t buffer.now (locality_number locality) random) check history
places_nothing r event.PowerCycle check history = refl

-- Placing an object is the execution of an event, and the new record satisfies the invariant of all
-- records.
use Rattle.std.proofs.Common.{arith, ◌≡◌, ℕ, Bool, false, [], ◌∷◌, length, length-set, Option, Some, None, refl, ◌∙◌}
use Rattle.std.proofs.lemmas.Bool.{false≢true}
use Rattle.tpm_containers.specs.Slots.{AreAll, lowest_free}
use Rattle.tpm_object.specs.Object.{IsObject}
use Rattle.tpm_object.specs.declared.object.Object.{Object}
use Rattle.tpm_types_common.specs.Limits.{object_limit}
use Rattle.tpm_record.specs.IsRecord.{IsRecord}
use Rattle.tpm_record.specs.Record.{Record}
use Rattle.tpm_step.specs.step.Events.{Placed}
use Rattle.tpm_step.specs.step.Execution.{Executes}
use Rattle.tpm_step.specs.history.Executions.{Leads, placing_execution}
use Rattle.tpm_step.specs.step.Placing.{placed_at, record_with_object}
use Rattle.tpm_step.specs.step.Step.{step}
use Rattle.tpm_step.proofs.rows.AllPlaces.{all_set}

placed_record : (r : Record) (object : Object) → IsObject object → IsRecord r
    → IsRecord (record_with_object r object)
placed_record r object one is = record {
  saved = is.saved;
  hierarchies = is.hierarchies;
  lockout = is.lockout;
  banks = is.banks;
  sessions = is.sessions;
  each_session = is.each_session;
  objects = many (lowest_free r.objects);
  each_object = each (lowest_free r.objects);
  persistent = is.persistent;
  nv = is.nv;
  time = is.time;
  clock = is.clock;
  reset_count = is.reset_count;
  restart_count = is.restart_count;
}
  where
    many : (found : Option ℕ) → length (placed_at found object r.objects) ≡ object_limit
    many (Some place) = length-set r.objects place (Some object) ∙ is.objects
    many None = is.objects

    each : (found : Option ℕ) → AreAll IsObject (placed_at found object r.objects)
    each (Some place) = all_set IsObject r.objects place (Some object) one is.each_object
    each None = is.each_object

pub placed_executes : (can : Bool) (r : Record) (object : Object) → IsObject object → IsRecord r
    → Executes can r (Placed object) (step r (Placed object))
placed_executes can r object one is = record {
  happens = one;
  steps = (false, (λ none. absurd (false≢true none)), refl);
  exactly = λ never. refl;
  is_record = placed_record r object one is;
  harmless = λ refused. absurd (refused refl);
  modest = λ accepted. tt;
  fits = omega arith;
}

pub placing_leads : (can : Bool) (r : Record) (object : Object) → IsObject object → IsRecord r
    → Leads can r (placing_execution r object ∷ []) (record_with_object r object)
placing_leads can r object one is = (refl, placed_executes can r object one is, refl)

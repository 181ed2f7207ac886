-- Proves, by computation, the example of an object that is saved, and whose context is loaded
-- again.
use Rattle.std.proofs.Common.{arith, false, refl, sym, subst}
use Rattle.tpm_containers.specs.Numbered.{at_number}
use Rattle.tpm_record.specs.IsRecord.{IsRecord}
use Rattle.tpm_record.specs.Objects.{object_at}
use Rattle.tpm_record.specs.Record.{Record}
use Rattle.tpm_step.proofs.history.FailedRun.{failed_run_is}
use Rattle.tpm_step.proofs.step.Placing.{placed_executes}
use Rattle.tpm_completion.proofs.Loaded.{loads_what_was_saved}
use Rattle.tpm_completion.specs.Loaded.{StaysValid}
use Rattle.tpm_premises.proofs.Placed.{is_placed}
use Rattle.tpm_premises.specs.Contexts.{HasSavedObject, first_layer, four_more, later_layer, one_more, with_object, without_object}
use Rattle.tpm_premises.specs.Placed.{saved_object}

tried_is_record : IsRecord without_object
tried_is_record = subst IsRecord (sym failed_run_is.leads.2.0) failed_run_is.leads.1.is_record

one_is_record : (r : Record) → IsRecord r → IsRecord (one_more r)
one_is_record r is = (placed_executes false r saved_object is_placed.happens is).is_record

four_are_record : (r : Record) → IsRecord r → IsRecord (four_more r)
four_are_record r is =
    one_is_record (one_more (one_more (one_more r)))
    (one_is_record (one_more (one_more r)) (one_is_record (one_more r) (one_is_record r is)))

still_valid : StaysValid with_object without_object first_layer later_layer saved_object
still_valid = record { proof = refl; start = refl; reset_count = refl; restart_count = refl }

pub has_saved_object : HasSavedObject
unfolding object_at at_number
has_saved_object = record {
  started = refl;
  transient = refl;
  found = refl;
  next = refl;
  object = is_placed.happens;
  later_started = refl;
  is_record = tried_is_record;
  valid = still_valid;
  is_making = record {
    binding = record {
      start = omega arith;
      reset_count = omega arith;
      restart_count =
          omega arith;
    };
    sequence = omega arith;
    object = is_placed.happens;
  };
  opens = loads_what_was_saved with_object without_object first_layer later_layer 1 saved_object
      (omega arith) is_placed.happens still_valid;
  gone = refl;
  free = refl;
  full_is_record = four_are_record (four_more without_object)
      (four_are_record without_object tried_is_record);
  full_valid = record { proof = refl; start = refl; reset_count = refl; restart_count = refl };
  none_free = refl;
}

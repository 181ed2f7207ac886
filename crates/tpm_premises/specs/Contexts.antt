-- An example of an object that is saved, and whose context is loaded again.
use Rattle.std.specs.Prelude.{◌≡◌, true, Some, None, Ok}
use Rattle.tpm_object.specs.Object.{IsObject}
use Rattle.tpm_types_common.specs.Handle.{is_transient}
use Rattle.tpm_record.specs.IsRecord.{IsRecord}
use Rattle.tpm_record.specs.Objects.{next_handle, object_at}
use Rattle.tpm_record.specs.Record.{Record}
use Rattle.tpm_step.specs.history.FailedRun.{tried_device}
use Rattle.tpm_step.specs.step.Placing.{record_with_object}
use Rattle.tpm_context.specs.Meaning.{IsMaking, Making, context_of}
use Rattle.tpm_completion.specs.Completion.{new_completion}
use Rattle.tpm_completion.specs.Loaded.{StaysValid}
use Rattle.tpm_completion.specs.Loading.{object_opened}
use Rattle.tpm_completion.specs.Saving.{binding_of, layer_with_count, next_number}
use Rattle.tpm_completion.specs.declared.completion.Completion.{Completion}
use Rattle.tpm_premises.specs.Placed.{first_transient, saved_object}

-- a started device without `saved_object`
abbrev pub without_object : Record
without_object = tried_device 1 0 0

-- a device with one more copy of `saved_object`
abbrev pub one_more : Record → Record
one_more r = record_with_object r saved_object

-- a started device with `saved_object`
abbrev pub with_object : Record
with_object = one_more without_object

abbrev pub four_more : Record → Record
four_more r = one_more (one_more (one_more (one_more r)))

-- a device without a free slot: every slot contains a copy of `saved_object`
abbrev pub full : Record
full = four_more (four_more without_object)

-- a new completing layer with start number 1
abbrev pub first_layer : Completion
first_layer = new_completion 1

-- `first_layer` after it has made its first context
abbrev pub later_layer : Completion
later_layer = layer_with_count first_layer 1

-- the values from which the context of `saved_object` is made
abbrev pub saved_making : Making
saved_making = record {
  hierarchies = with_object.fixed.hierarchies;
  binding = binding_of with_object first_layer;
  sequence = 1;
  object = saved_object;
}

-- `saved_object` can be saved on `with_object`. Its context is valid on `without_object`, where the
-- object gets the same handle again, and on `full`, which has no free slot.
pub record HasSavedObject : Type 0 where
  pub started : with_object.fixed.started ≡ true
  pub transient : is_transient first_transient ≡ true
  pub found : object_at with_object.objects first_transient ≡ Some saved_object
  pub next : next_number first_layer ≡ Some 1
  pub object : IsObject saved_object
  pub later_started : without_object.fixed.started ≡ true
  pub is_record : IsRecord without_object
  pub valid : StaysValid with_object without_object first_layer later_layer saved_object
  pub is_making : IsMaking saved_making
  pub opens : object_opened without_object later_layer (context_of saved_making) ≡ Ok saved_object
  pub gone : object_at without_object.objects first_transient ≡ None
  pub free : next_handle without_object.objects ≡ Some first_transient
  pub full_is_record : IsRecord full
  pub full_valid : StaysValid with_object full first_layer later_layer saved_object
  pub none_free : next_handle full.objects ≡ None

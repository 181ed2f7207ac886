-- Placing an object counts as the execution of an event.
use Rattle.std.proofs.Common.{◌≡◌, ℕ, Bool, List, Option, Some, None, option_map, Result, Ok, Err, sym, ap, subst, ◌∙◌}
use Rattle.tpm_containers.specs.Slots.{lowest_free}
use Rattle.tpm_containers.specs.declared.slots.SlotFault.{SlotFault}
use Rattle.tpm_containers.specs.declared.slots.SlotFault.TheVariants.{Full, NoMemory}
use Rattle.tpm_object.specs.Object.{IsObject}
use Rattle.tpm_object.specs.declared.object.Object.{Object}
use Rattle.tpm_types_common.specs.declared.handle.Handle.{Handle}
use Rattle.tpm_record.specs.AnyObject.{AddsObject}
use Rattle.tpm_record.specs.IsRecord.{IsRecord}
use Rattle.tpm_record.specs.Objects.{object_handle}
use Rattle.tpm_record.specs.Record.{Record}
use Rattle.tpm_step.specs.step.Events.{Placed}
use Rattle.tpm_step.specs.step.Execution.{Executes}
use Rattle.tpm_step.specs.history.Follows.{FollowsOn}
use Rattle.tpm_step.specs.step.Placing.{placed_at, record_with_object}
use Rattle.tpm_step.proofs.step.Placing.{placed_executes}
use Rattle.tpm_machine.specs.Placing.{IfMemory, Places, placing_seen}
use Rattle.tpm_machine.proofs.Histories.{follows_on}

places : (can : Bool) (old : Record) (object : Object) (result : Result Handle SlotFault)
    (new : Record) → AddsObject can old object result new → Places can old result new
places can old object (Ok handle) new (adds, is) =
    ap (option_map object_handle) adds.1
    ∙ ap (λ (h : Handle). let found : Option Handle = Some h in found) (sym adds.2)
places can old object (Err Full) new (adds, is) = (
  ap (option_map object_handle) adds.0,
  is
      ∙ ap (λ (objects : List (Option Object)). record old { objects = objects }) adds.1,
)
places can old object (Err NoMemory) new (adds, is) =
    (adds.2, is ∙ ap (λ (objects : List (Option Object)). record old { objects = objects }) adds.3)

-- the record after adding an object is the record after the event `Placed`
placed_is : (old : Record) (object : Object) (found : Option ℕ) → lowest_free old.objects ≡ found
    → record old { objects = placed_at found object old.objects } ≡ record_with_object old object
placed_is old object found free =
    ap (λ (x : Option ℕ). record old { objects = placed_at x object old.objects }) (sym free)

seen_executes : (can : Bool) (old : Record) (object : Object) (new : Record) → IsObject object
    → IsRecord old → new ≡ record_with_object old object
    → Executes can old (Placed object) (placing_seen new)
seen_executes can old object new is record_is same =
    subst (λ (r : Record). Executes can old (Placed object) (placing_seen r)) (sym same)
    (placed_executes can old object is record_is)

place_executes : (can : Bool) (old : Record) (object : Object) (result : Result Handle SlotFault)
    (new : Record) → IsObject object → IsRecord old → AddsObject can old object result new
    → IfMemory result (Executes can old (Placed object) (placing_seen new))
place_executes can old object (Ok handle) new is record_is (adds, same) =
    seen_executes can old object new is record_is
    (same ∙ ap (λ (objects : List (Option Object)). record old { objects = objects }) adds.3
    ∙ placed_is old object (Some adds.0) adds.1)
place_executes can old object (Err Full) new is record_is (adds, same) =
    seen_executes can old object new is record_is
    (same ∙ ap (λ (objects : List (Option Object)). record old { objects = objects }) adds.1
    ∙ placed_is old object None adds.0)
place_executes can old object (Err NoMemory) new is record_is (adds, same) = tt

-- If `P` implies `Q`, and `P` holds unless an allocation failed, then `Q` holds unless an
-- allocation failed.
if_memory : (P Q : Type 0) (result : Result Handle SlotFault) → (P → Q) → IfMemory result P
    → IfMemory result Q
if_memory P Q (Ok handle) so holds = so holds
if_memory P Q (Err Full) so holds = so holds
if_memory P Q (Err NoMemory) so holds = tt

-- What holds after an attempt to place an object on a device. The result satisfies `Places`. Unless
-- an allocation failed, the call executed an event, and the device still follows its history.
pub record Tells (can : Bool) (old : Record) (object : Object) (result : Result Handle SlotFault)
    (new : Record) : Type 0 where
  pub places : Places can old result new
  pub executes : IfMemory result (Executes can old (Placed object) (placing_seen new))
  pub follows : IfMemory result (FollowsOn old (Placed object) (placing_seen new))

pub place_tells : (can : Bool) (old : Record) (object : Object) (result : Result Handle SlotFault)
    (new : Record) → IsObject object → IsRecord old → AddsObject can old object result new
    → Tells can old object result new
place_tells can old object result new is record_is adds = record {
  places = places can old object result new adds;
  executes = executes;
  follows = if_memory (Executes can old (Placed object) (placing_seen new))
      (FollowsOn old (Placed object) (placing_seen new)) result
      (follows_on can old (Placed object) (placing_seen new)) executes;
}
  where
    executes : IfMemory result (Executes can old (Placed object) (placing_seen new))
    executes = place_executes can old object result new is record_is adds

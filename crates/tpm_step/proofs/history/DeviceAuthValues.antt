-- A device has the authorization values that its history determines.
use Rattle.std.proofs.Common.{arith, ◌≡◌, ℕ, Bool, true, false, cond, List, [], ◌∷◌, length, map, not, ◌||◌, ◌==◌, Option, Some, None, option_map, option_and_then, refl, sym, ap, ap₂, subst, ◌∙◌, inr, zero, suc, slice_get}
use Rattle.std.specs.Option.{option_map_or}
use Rattle.std.proofs.lemmas.Bool.{cond-false, false≢true, or_parts}
use Rattle.std.proofs.lemmas.Bool.Decides.{nat_tests}
use Rattle.std.proofs.lemmas.Option.{none-some, same_Some}
use Rattle.tpm_containers.specs.SortedMap.{Ascends}
use Rattle.tpm_nv.specs.Head.{head_of}
use Rattle.tpm_nv.specs.Index.{NvIndex, index_at}
use Rattle.tpm_object.specs.Object.{transient_byte}
use Rattle.tpm_object.specs.declared.object.Object.{Object}
use Rattle.tpm_containers.specs.Numbered.{at_number, if_of_kind, place_of}
use Rattle.tpm_containers.specs.Slots.{at_place, lowest_free}
use Rattle.tpm_types_common.specs.AuthValue.{trimmed}
use Rattle.tpm_types_common.specs.Handle.{handle_type, hierarchy_auth_of, is_nv_index, is_persistent, is_session, is_transient}
use Rattle.tpm_types_common.specs.Limits.{object_limit}
use Rattle.tpm_types_common.specs.declared.handle.Handle.{Handle}
use Rattle.tpm_types_common.specs.declared.handle.HierarchyAuth.{HierarchyAuth}
use Rattle.tpm_types_common.specs.declared.handle.HierarchyAuth.TheVariants as auth
use Rattle.tpm_commands.specs.CommandCode.{shape_of}
use Rattle.tpm_commands.specs.declared.shape.HandleRule.{HandleRule}
use Rattle.tpm_record.specs.Cycle.{after_cycle}
use Rattle.tpm_record.specs.Entity.{AnIndex, AnObject, Entity, Permanent, auth_value_of, entity_at, entity_auth_value, hierarchy_auth_value, index_of, is_kept, is_present, names_kept, object_of, permanent_auth_value}
use Rattle.tpm_record.specs.Hierarchy.{manufactured_hierarchies}
use Rattle.tpm_record.specs.Objects.{object_at, object_handle, with_object}
use Rattle.tpm_record.specs.Persistent.{persistent_at}
use Rattle.tpm_record.specs.Record.{Record, manufactured, no_objects}
use Rattle.tpm_record.specs.rows.Request.{Request}
use Rattle.tpm_step.specs.step.Step.{Accepted, success_step}
use Rattle.tpm_step.specs.step.Table.{row_of}
use Rattle.tpm_step.specs.rows.Acceptance.{IsAcceptance}
use Rattle.tpm_step.specs.rows.Handles.{HandlesFit}
use Rattle.tpm_step.proofs.rows.Binding.{ok_at}
use Rattle.tpm_step.proofs.rows.Leaving.{success_leaves}
use Rattle.tpm_step.specs.history.AuthValues.{AuthValues, auth_of, values_by}
use Rattle.tpm_step.specs.history.DeviceAuthValues.{HasAuthValues, HaveValues, auth_seen, index_auth, object_auth}
use Rattle.tpm_step.specs.history.HandleMap.{with_at}
use Rattle.tpm_step.specs.history.History.{Done, History, ObjectPlaced, PowerCycled, command_of, sensitive_in}
use Rattle.tpm_step.proofs.history.AuthParts.{kept_values, object_kept, parts_keep, set_values}
use Rattle.tpm_step.proofs.history.AuthRows.{placed_sets, row_sets}
use Rattle.tpm_containers.proofs.FoundNumbers.{free_found}

-- ---- the effect of an event

pub auth_values_done : (r : Record) (a : Accepted) (locality : ℕ) (random : List ℕ)
    (history : History) → IsAcceptance r locality random a → length r.objects ≡ object_limit
    → Ascends r.nv.indices → Ascends r.persistent → HasAuthValues r history
    → HasAuthValues (success_step a random).after (Done (command_of r a) ∷ history)
auth_values_done r a locality random history accepts all up also has =
    subst (λ (new : Record). HaveValues new values) (sym (success_leaves a random))
    (ok_at
    (λ s. HaveValues s.after
    (values_by a.command.code a.request s.answer.handle
    (sensitive_in a.command.code r a.request) (auth_of history)))
    (row_of r a.command.code a.request) a.success
    (row_sets r a.command.code a.request (auth_of history) fits all up also has) accepts.row)
  where
    values : AuthValues
    values = values_by a.command.code a.request a.success.answer.handle
        (sensitive_in a.command.code r a.request) (auth_of history)

    fits : HandlesFit r (shape_of a.command.code).handles a.request.handles
    fits = subst (λ (q : Request). HandlesFit r (shape_of a.command.code).handles q.handles)
        (sym accepts.requested) accepts.fits

pub cycled_auth_values : (r : Record) (history : History) → HasAuthValues r history
    → HasAuthValues (after_cycle r) (PowerCycled ∷ history)
unfolding object_at
cycled_auth_values r history =
    kept_values r (after_cycle r) (auth_of history)
    (λ h. parts_keep r (after_cycle r) h (λ v is. is) (λ v is. is)
    (object_kept (object_at r.objects h) (object_at no_objects h)
    (inr (free_found transient_byte object_limit h.number))) refl)

-- after an object from a saved context is placed, its handle has the object's own authorization
-- value
pub placed_auth_values : (r : Record) (place : ℕ) (object : Object) (history : History)
    → length r.objects ≡ object_limit → lowest_free r.objects ≡ Some place
    → trimmed object.auth_value ≡ object.auth_value → HasAuthValues r history
    → HasAuthValues (record r { objects = with_object r.objects place object })
    (ObjectPlaced (object_handle place) object ∷ history)
placed_auth_values r place object history all free is has =
    let new : Record = record r { objects = with_object r.objects place object } in
    subst (λ (value : List ℕ). HaveValues new
    (with_at (object_handle place) value (auth_of history))) (sym is)
    (set_values r new (auth_of history) (object_handle place) object.auth_value
    (placed_sets r place object all free) has)

-- ---- a manufactured device

no_value : (random : List ℕ) (h : Handle) → permanent_auth_value (manufactured random) h ≡ []
unfolding manufactured_hierarchies
no_value random h = by (hierarchy_auth_of h)
  where
    by : (named : Option HierarchyAuth)
        → option_map_or (hierarchy_auth_value (manufactured random).fixed.hierarchies) named [] ≡ []
    by None = refl
    by (Some auth.Owner) = refl
    by (Some _) = refl

pub manufactured_auth_values : (random : List ℕ) → HasAuthValues (manufactured random) []
unfolding object_at
manufactured_auth_values random h v = by (is_nv_index h) (is_persistent h) (is_transient h)
  where
    by : (index persistent transient : Bool)
        → cond index None
        (cond persistent None
        (cond transient (object_auth (at_number transient_byte no_objects h.number))
        (Some (permanent_auth_value (manufactured random) h)))) ≡ Some v → v ≡ []
    by true persistent transient is = absurd (none-some v is)
    by false true transient is = absurd (none-some v is)
    by false false true is =
        absurd
        (none-some v (sym (ap object_auth (free_found transient_byte object_limit h.number)) ∙ is))
    by false false false is = sym (same_Some _ v is) ∙ no_value random h

-- ---- the value of an existing entity

no_session : (t : ℕ) → (t == 0x01 || t == 0x80 || t == 0x81) ≡ true
    → (t == 0x02 || t == 0x03) ≡ false
no_session t kept = grind (arith, nat_tests)

module _ (r : Record) (h : Handle) where
  -- If a handle has the type of an object or an index, and its entity exists, the handle names an
  -- object or an index.
  pub kept_there : is_present r h ≡ true → names_kept h ≡ true → is_kept (entity_at r h) ≡ true
  unfolding is_present
  kept_there present kept =
      either (is_kept (entity_at r h))
      (sym (cond-false (is_session h) _ _ (no_session (handle_type h) kept)
      ∙ ap (λ b. is_kept (entity_at r h) || not b) kept) ∙ present)
    where
      either : (b : Bool) → (b || false) ≡ true → b ≡ true
      either true is = refl
      either false is = is

  index_there : (found : Option NvIndex)
      → is_kept (option_map_or AnIndex (option_map head_of found) Permanent) ≡ true
      → index_auth found
      ≡ Some (entity_auth_value r h (option_map_or AnIndex (option_map head_of found) Permanent))
  index_there (Some index) kept = refl
  index_there None kept = absurd (false≢true kept)

  object_there : (found : Option Object) → is_kept (option_map_or AnObject found Permanent) ≡ true
      → object_auth found ≡ Some (entity_auth_value r h (option_map_or AnObject found Permanent))
  object_there (Some object) kept = refl
  object_there None kept = absurd (false≢true kept)

  none_transient : is_transient h ≡ false → object_at r.objects h ≡ None
  unfolding object_at at_number
  none_transient other = none (at_place r.objects (place_of h.number))
    where
      none : (place : Option Object) → option_and_then (if_of_kind transient_byte h.number) place
          ≡ None
      none None = refl
      none (Some object) = cond-false (is_transient h) (Some object) None other

  abbrev entity_by : (index persistent : Bool) → Entity
  entity_by index persistent =
      cond index (option_map_or AnIndex (index_of r h) Permanent)
      (option_map_or AnObject
      (cond persistent (persistent_at r.persistent h) (object_at r.objects h)) Permanent)

  seen_by : (index persistent transient : Bool) → is_transient h ≡ transient
      → ((index || transient || persistent) ≡ true → is_kept (entity_by index persistent) ≡ true)
      → cond index (index_auth (index_at r.nv h))
      (cond persistent (object_auth (persistent_at r.persistent h))
      (cond transient (object_auth (object_at r.objects h)) (Some (permanent_auth_value r h))))
      ≡ Some (entity_auth_value r h (entity_by index persistent))
  seen_by true persistent transient is kept = index_there (index_at r.nv h) (kept refl)
  seen_by false true true is kept = object_there (persistent_at r.persistent h) (kept refl)
  seen_by false true false is kept = object_there (persistent_at r.persistent h) (kept refl)
  seen_by false false true is kept = object_there (object_at r.objects h) (kept refl)
  seen_by false false false is kept =
      ap (λ (found : Option Object).
      Some (entity_auth_value r h (option_map_or AnObject found Permanent)))
      (sym (none_transient is))

  -- `auth_seen` finds the authorization value of an object or an index at its handle
  pub kept_seen : is_kept (entity_at r h) ≡ true → auth_seen r h ≡ Some (auth_value_of r h)
  unfolding auth_value_of entity_at object_of
  kept_seen kept = seen_by (is_nv_index h) (is_persistent h) (is_transient h) refl (λ there. kept)

  present_seen : is_present r h ≡ true → auth_seen r h ≡ Some (auth_value_of r h)
  unfolding auth_value_of entity_at object_of
  present_seen present = seen_by (is_nv_index h) (is_persistent h) (is_transient h)
      refl (kept_there present)

pub present_auth_value : (r : Record) (history : History) (h : Handle) → HasAuthValues r history
    → is_present r h ≡ true → auth_value_of r h ≡ auth_of history h
present_auth_value r history h has present = has h (auth_value_of r h) (present_seen r h present)

pub handles_auth_values : (r : Record) (history : History) (rules : List HandleRule)
    (handles : List Handle) → HasAuthValues r history → HandlesFit r rules handles
    → map (auth_value_of r) handles ≡ map (auth_of history) handles
handles_auth_values r history rules [] has fits = refl
handles_auth_values r history [] (h ∷ handles) has fits = absurd fits
handles_auth_values r history (rule ∷ rules) (h ∷ handles) has fits =
    ap₂ (λ (value : List ℕ) (values : List (List ℕ)). value ∷ values)
    (present_auth_value r history h has fits.0.1)
    (handles_auth_values r history rules handles has fits.1)

-- each handle of an accepted command names an existing entity
pub handles_present : (r : Record) (rules : List HandleRule) (handles : List Handle)
    → HandlesFit r rules handles → (place : ℕ) (handle : Handle)
    → slice_get handles place ≡ Some handle → is_present r handle ≡ true
handles_present r rules [] fits place handle at = absurd cc
handles_present r [] (h ∷ handles) fits place handle at = absurd fits
handles_present r (rule ∷ rules) (h ∷ handles) fits zero handle at = let same : h ≡ handle =
    cc in subst (λ (x : Handle). is_present r x ≡ true) same fits.0.1
handles_present r (rule ∷ rules) (h ∷ handles) fits (suc place) handle at =
    handles_present r rules handles fits.1 place handle at

-- ---- entities other than hierarchies, lockout, indices and objects

pub others_have_none : (r : Record) (history : History) (h : Handle) → HasAuthValues r history
    → names_kept h ≡ false → hierarchy_auth_of h ≡ None → auth_of history h ≡ []
others_have_none r history h has other none =
    let parts = or_parts (is_nv_index h || is_transient h) (is_persistent h) other in
    let first = or_parts (is_nv_index h) (is_transient h) parts.0 in
    sym (has h []
    (cond-false (is_nv_index h) _ _ first.0 ∙ cond-false (is_persistent h) _ _ parts.1
    ∙ cond-false (is_transient h) _ _ first.1
    ∙ ap (λ (named : Option HierarchyAuth).
    Some (option_map_or (hierarchy_auth_value r.fixed.hierarchies) named [])) none))

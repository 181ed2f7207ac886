-- Each row sets the authorization values that the history determines for its command, and no other
-- authorization values.
use Rattle.std.proofs.Common.{arith, rules, ◌≡◌, ◌≢◌, ◌⊎◌, ℕ, ◌/◌, ◌^◌, ◌<◌, Bool, true, false, List, [], length, is_some, not, Option, Some, None, option_map, Result, Ok, Err, IfOk, nat_le, nat_lt, ◌==◌, ◌||◌, refl, sym, ap, subst, ◌∙◌, inl, inr}
use Rattle.std.specs.Option.{option_map_or}
use Rattle.std.proofs.lemmas.Bool.{cases_Bool, cond_both, eq-eqb, eqb-true, false≢true, or_cases}
use Rattle.tpm_bytes.proofs.Fields.{passed}
use Rattle.tpm_bytes.specs.Reading.{◌>>=◌, refused_if}
use Rattle.tpm_containers.specs.IsSortedMap.{IsSortedMap}
use Rattle.tpm_containers.specs.SortedMap.{Ascends, Entries, at_key}
use Rattle.tpm_containers.proofs.SortedMapLaws.{is_map}
use Rattle.tpm_mac.specs.Digest.{digest_size}
use Rattle.tpm_containers.specs.Numbered.{at_number, number_of}
use Rattle.tpm_containers.specs.Slots.{lowest_free}
use Rattle.tpm_containers.proofs.NumberedLaws.{put_found, put_others}
use Rattle.tpm_containers.proofs.SlotLaws.{lowest_free-free}
use Rattle.tpm_types_common.proofs.Trimming.{trimmed_twice}
use Rattle.tpm_types_common.specs.AuthValue.{auth_value_at, trimmed}
use Rattle.tpm_types_common.specs.Handle.{hierarchy_auth_of, is_nv_index, is_persistent, is_transient, lockout_handle, owner_handle, endorsement_handle, platform_handle}
use Rattle.tpm_types_common.specs.Limits.{object_limit, persistent_limit}
use Rattle.tpm_types_common.specs.PersistentHandle.{persistent_handle_at}
use Rattle.tpm_types_common.specs.StartupType.{startup_type_at}
use Rattle.tpm_types_common.specs.declared.action_check.ActionCheck.TheVariants as action
use Rattle.tpm_types_common.specs.declared.handle.Handle.{Handle}
use Rattle.tpm_types_common.specs.declared.handle.HierarchyAuth.{HierarchyAuth}
use Rattle.tpm_types_common.specs.declared.handle.HierarchyAuth.TheVariants as auth
use Rattle.tpm_types_common.specs.declared.handle.HierarchyHandle.{HierarchyHandle}
use Rattle.tpm_types_common.specs.declared.rc.ResponseCode.TheVariants as code
use Rattle.tpm_types_common.specs.declared.refused.Refused.{Refused}
use Rattle.tpm_types_common.specs.declared.startup_type.StartupType.{StartupType}
use Rattle.tpm_types_common.specs.declared.startup_type.StartupType.TheVariants as type
use Rattle.tpm_commands.specs.CommandCode.{part_of, shape_of}
use Rattle.tpm_commands.specs.Shape.{admin, rule_without_role, user}
use Rattle.tpm_commands.specs.declared.command_code.CommandCode.{CommandCode}
use Rattle.tpm_commands.specs.declared.command_code.CommandCode.TheVariants as command
use Rattle.tpm_commands.specs.declared.shape.HandleKind.TheVariants as kind
use Rattle.tpm_nv.specs.Access.{contents_after_increment, index_or_fault, undefined_fault, with_auth_value}
use Rattle.tpm_nv.specs.Clear.{contents_after_clear, is_by_platform}
use Rattle.tpm_nv.specs.Definition.{defined_index}
use Rattle.tpm_nv.specs.Index.{NvContents, NvIndex, changed_index, with_index, without_index}
use Rattle.tpm_nv.specs.Startup.{contents_after_startup, started_index}
use Rattle.tpm_nv.specs.declared.fault.Undefined.{Undefined}
use Rattle.tpm_nv.specs.declared.fault.WriteFault.TheVariants as write_fault
use Rattle.tpm_object.specs.Areas.{new_object_areas}
use Rattle.tpm_object.specs.Object.{transient_byte}
use Rattle.tpm_object.specs.Primary.{primary_areas, primary_object}
use Rattle.tpm_object.specs.declared.object.Object.{Object}
use Rattle.tpm_record.specs.Clear.{cleared_objects, cleared_persistent, is_cleared, outlasts}
use Rattle.tpm_record.specs.Entity.{object_of, permanent_auth_value, with_hierarchy_auth}
use Rattle.tpm_record.specs.Objects.{object_at, object_handle, with_object, without_object}
use Rattle.tpm_record.specs.Persistent.{persistent_at, with_persistent, without_persistent}
use Rattle.tpm_record.specs.Record.{Record}
use Rattle.tpm_record.specs.Saved.{kind_of}
use Rattle.tpm_record.specs.declared.fixed.Fixed.{Fixed}
use Rattle.tpm_record.specs.declared.saved.SavedKind.{SavedKind}
use Rattle.tpm_record.specs.declared.saved.SavedKind.TheVariants as saved
use Rattle.tpm_record.proofs.ClearLaws.{are_cleared}
use Rattle.tpm_record.specs.rows.Refusals.{handle_refusal, or_refusal, parameter_refusal}
use Rattle.tpm_record.specs.rows.Request.{Request, first_handle, second_handle}
use Rattle.tpm_record.specs.rows.Rows.{only}
use Rattle.tpm_record.specs.rows.Target.{index_or_refusal}
use Rattle.tpm_actions_device.specs.FlushContext.{flush_context_row, flushed_from}
use Rattle.tpm_actions_device.specs.HierarchyChangeAuth.{hierarchy_change_auth_row, with_auth_of}
use Rattle.tpm_actions_device.specs.Startup.{start_of, started_record, startup_row}
use Rattle.tpm_actions_object.specs.Checks.{given_passes, public_passes}
use Rattle.tpm_actions_object.specs.CreatePrimary.{create_primary_row, named_hierarchy, primary_from_seed}
use Rattle.tpm_actions_object.specs.Creation as creation
use Rattle.tpm_actions_object.specs.EvictControl.{evict_control_row, eviction_passes, objects_after_eviction, objects_with_copy, remaining_objects}
use Rattle.tpm_actions_object.specs.Load.{load_row, loaded_below, sensitive_of}
use Rattle.tpm_actions_object.specs.Load as load
use Rattle.tpm_actions_object.specs.Loaded.{is_fixed, loaded_at, parent_passes, place_for}
use Rattle.tpm_nvactions.specs.Access.{changed_nv}
use Rattle.tpm_nvactions.specs.NvChangeAuth.{nv_change_auth_row}
use Rattle.tpm_nvactions.specs.NvDefineSpace as definition
use Rattle.tpm_step.specs.step.Table.{row_of}
use Rattle.tpm_step.specs.rows.Footprint.{Touches, emptied_fixed}
use Rattle.tpm_commands.specs.Part.{Part, Nothing, Sessions, NvData, NvCounter, NvUndefined, Lockout, Banks}
use Rattle.tpm_commands.specs.Part.{Saved, DisableClear, Clock, Cleared}
use Rattle.tpm_step.specs.rows.IndexChanges.{ChangesIndices, Defines, Writes}
use Rattle.tpm_step.specs.rows.Handles.{FitsRule, HandlesFit}
use Rattle.tpm_step.proofs.rows.Binding.{asked, ok_at, ok_bind, ok_bind_is, ok_then, ok_weaker, some_is}
use Rattle.tpm_step.proofs.rows.Table.{of_success, row_touches}
use Rattle.tpm_step.specs.history.AuthValues.{AuthValues, changed_value, cleared_values, copied_value, created_value, defined_value, loaded_value, started_values, values_by, with_value}
use Rattle.tpm_step.specs.history.DeviceAuthValues.{HaveValues, auth_seen, index_auth, object_auth}
use Rattle.tpm_step.specs.history.HandleMap.{with_at}
use Rattle.tpm_step.specs.history.History.{if_ok, loaded_sensitive, sensitive_in}
use Rattle.tpm_containers.proofs.FoundKeys.{changed_shows, kept_or_gone, all_changed_found, removed_or_same}
use Rattle.tpm_containers.proofs.FoundNumbers.{removed_or_same as unplaced_or_same}
use Rattle.tpm_step.proofs.history.HandleMap.{same_handle}
use Rattle.tpm_step.proofs.history.AuthParts.{KeepsAll, Sets, auth_handle, hierarchy_set, index_kept, index_set, kept_values, named_is, object_kept, object_set, parts_keep, persistent_seen, persistent_set, same_kept, set_values, transient_seen, with_auth}
use Rattle.tpm_step.proofs.history.AuthReadings.{IsDefinition, definition_read, wanted_named}
use Rattle.tpm_step.proofs.rows.HandleRules.{first_fits, second_fits}

-- ---- parts of the state that contain no authorization value

index_keys : IsSortedMap NvIndex
index_keys = is_map

-- Each index has the same authorization value as before.
abbrev ShowSame : (old new : NvContents) → Type 0
ShowSame old new = (n : ℕ) → index_auth (at_key new.indices n) ≡ index_auth (at_key old.indices n)

changed_same : (nv : NvContents) (handle : Handle) (old new : NvIndex)
    → index_or_fault nv handle write_fault.Undefined ≡ Ok old → new.auth_value ≡ old.auth_value
    → ShowSame nv (changed_index nv handle new)
changed_same nv handle old new is same =
    changed_shows (λ (index : NvIndex). index.auth_value) nv.indices handle.number old new
    (some_is _ _ old is) same

incremented_same : (nv : NvContents) (handle : Handle)
    → IfOk (contents_after_increment nv handle) (ShowSame nv)
unfolding contents_after_increment
incremented_same nv handle = search (ok_bind_is, changed_same)

writes_same : (old new : NvContents) → Writes old new → ShowSame old new
writes_same old new made =
    subst (ShowSame old) (sym made.is)
    (changed_shows (λ (index : NvIndex). index.auth_value) old.indices made.handle.number
    made.before made.after made.found made.auth_value)

nv_keeps : (r : Record) (nv : NvContents) → ShowSame r.nv nv → KeepsAll r (record r { nv = nv })
nv_keeps r nv same h = parts_keep r (record r { nv = nv }) h (same_kept (same h.number))
    (λ v is. is) (λ v is. is) refl

undefined_keeps : (r : Record) (handle : Handle) → Ascends r.nv.indices
    → KeepsAll r (record r { nv = without_index r.nv handle })
undefined_keeps r handle up h =
    parts_keep r (record r { nv = without_index r.nv handle }) h
    (index_kept _ _ (removed_or_same r.nv.indices handle.number h.number up)) (λ v is. is)
    (λ v is. is) refl

abbrev keeps_values : Part → Bool
keeps_values Nothing = true
keeps_values Sessions = true
keeps_values NvData = true
keeps_values NvCounter = true
keeps_values NvUndefined = true
keeps_values Lockout = true
keeps_values Banks = true
keeps_values Saved = true
keeps_values DisableClear = true
keeps_values Clock = true
keeps_values _ = false

part_keeps : (p : Part) (q : Request) (old new : Record) → keeps_values p ≡ true
    → Ascends old.nv.indices → Touches p old new → ChangesIndices p q old.nv new.nv
    → KeepsAll old new
part_keeps Nothing q old new keeps up touches changes =
    subst (KeepsAll old) (sym touches) (λ h v is. is)
part_keeps Sessions q old new keeps up touches changes =
    subst (KeepsAll old) (sym touches) (λ h v is. is)
part_keeps NvData q old new keeps up touches changes =
    subst (KeepsAll old) (sym touches) (nv_keeps old new.nv (writes_same old.nv new.nv changes))
part_keeps NvCounter q old new keeps up touches changes =
    let same = ok_at (ShowSame old.nv) (contents_after_increment old.nv changes.handle) new.nv
    (incremented_same old.nv changes.handle) changes.is in
    subst (KeepsAll old) (sym touches) (nv_keeps old new.nv same)
part_keeps NvUndefined q old new keeps up touches changes =
    let made : new ≡ record old { nv = without_index old.nv changes.handle } =
    touches ∙ ap (λ (nv : NvContents). record old { nv = nv }) changes.is in
    subst (KeepsAll old) (sym made) (undefined_keeps old changes.handle up)
part_keeps Lockout q old new keeps up touches changes =
    subst (KeepsAll old) (sym touches) (λ h v is. is)
part_keeps Banks q old new keeps up touches changes =
    subst (KeepsAll old) (sym touches) (λ h v is. is)
part_keeps Saved q old new keeps up touches changes =
    subst (KeepsAll old) (sym touches) (λ h v is. is)
part_keeps DisableClear q old new keeps up touches changes =
    subst (KeepsAll old) (sym touches) (λ h v is. is)
part_keeps Clock q old new keeps up touches changes =
    subst (KeepsAll old) (sym touches) (λ h v is. is)
part_keeps _ q old new keeps up touches changes = absurd (false≢true keeps)

others_keep : (r : Record) (code : CommandCode) (q : Request) → keeps_values (part_of code) ≡ true
    → Ascends r.nv.indices → IfOk (row_of r code q) (λ s. KeepsAll r s.after)
others_keep r code q keeps up =
    of_success _ r code q
    (λ s laws. part_keeps (part_of code) q r s.after keeps up laws.touches laws.changes)

-- ---- flushing an object or a session

flushed_keeps : (r : Record) (handle : Handle) (of_session : Bool)
    → KeepsAll r (flushed_from r handle of_session)
unfolding object_at without_object
flushed_keeps r handle true h = λ v is. is
flushed_keeps r handle false h =
    parts_keep r (flushed_from r handle false) h (λ v is. is) (λ v is. is)
    (object_kept _ _ (unplaced_or_same transient_byte r.objects handle.number h.number)) refl

flush_keeps : (r : Record) (q : Request)
    → IfOk (row_of r command.FlushContext q) (λ s. KeepsAll r s.after)
unfolding row_of flush_context_row
flush_keeps r q = search (rules, ok_bind, flushed_keeps)

-- ---- the value that a row sets

set_is : (old new : Record) (values : AuthValues) (handle : Handle) (value : List ℕ)
    (set : Result (Handle × List ℕ) Refused) → set ≡ Ok (handle, value) → Sets handle value old new
    → HaveValues old values → HaveValues new (with_value set values)
set_is old new values handle value set is sets have =
    subst (λ (x : Result (Handle × List ℕ) Refused). HaveValues new (with_value x values)) (sym is)
    (set_values old new values handle value sets have)

absent : {X E : Type 0} (found : Option X) (fault : E) (u : Unit {0})
    → refused_if (is_some found) fault ≡ Ok u → found ≡ None
absent None fault u is = refl
absent (Some x) fault u is = absurd (false≢true (sym (passed true fault u is)))

-- ---- hierarchies

abbrev with_changed : Record → Handle → List ℕ → Record
with_changed r handle value =
    record r {
      fixed =
          record r.fixed { hierarchies = with_auth_of r.fixed.hierarchies handle value };
    }

changed_sets : (r : Record) (handle : Handle) (value : List ℕ) (named : Option HierarchyAuth)
    → hierarchy_auth_of handle ≡ named → is_some named ≡ true
    → Sets handle value r (with_changed r handle value)
changed_sets r handle value None is some = absurd (false≢true some)
changed_sets r handle value (Some a) is some =
    subst (λ (h : Handle). Sets h value r (with_changed r handle value))
    (sym (named_is handle a is))
    (subst (λ (named : Option HierarchyAuth). Sets (auth_handle a) value r
    (record r {
      fixed =
          record r.fixed {
            hierarchies =
                option_map_or (λ a. with_hierarchy_auth r.fixed.hierarchies a value) named
                r.fixed.hierarchies;
          };
    })) (sym is)
    (hierarchy_set r a value))

change_auth_sets : (r : Record) (q : Request) (values : AuthValues)
    → HandlesFit r (shape_of command.HierarchyChangeAuth).handles q.handles → HaveValues r values
    → IfOk (row_of r command.HierarchyChangeAuth q)
    (λ s. HaveValues s.after (with_value (changed_value q) values))
unfolding row_of hierarchy_change_auth_row shape_of
change_auth_sets r q values fits have =
    ok_bind_is _ (first_handle q.handles) _ (λ handle handle_is.
    ok_bind_is _ (only (auth_value_at q.parameters)) _ (λ value value_is.
    let set : changed_value q ≡ Ok (handle, value) = rw (handle_is, value_is) refl in
    let fit : FitsRule r (user kind.HierarchyAuth) handle =
    first_fits r (user kind.HierarchyAuth) [] q.handles handle fits handle_is in
    set_is r (with_changed r handle value) values handle value (changed_value q) set
    (changed_sets r handle value (hierarchy_auth_of handle) refl fit.0) have))

-- ---- NV indices

index_changed : (r : Record) (handle : Handle) (value : List ℕ) → is_nv_index handle ≡ true
    → IfOk (with_auth_value r.nv handle value) (λ nv. Sets handle value r (record r { nv = nv }))
unfolding with_auth_value
index_changed r handle value named =
    ok_bind_is _ (index_or_fault r.nv handle undefined_fault) _ (λ index is.
    let new : NvIndex = record index { auth_value = value } in
    index_set r (changed_index r.nv handle new) handle new named
    (index_keys.changed_found r.nv.indices handle.number index new (some_is _ _ index is))
    (index_keys.changed_others r.nv.indices handle.number new))

nv_change_auth_sets : (r : Record) (q : Request) (values : AuthValues)
    → HandlesFit r (shape_of command.NvChangeAuth).handles q.handles → HaveValues r values
    → IfOk (row_of r command.NvChangeAuth q)
    (λ s. HaveValues s.after (with_value (changed_value q) values))
unfolding row_of nv_change_auth_row shape_of
nv_change_auth_sets r q values fits have =
    ok_bind_is _ (first_handle q.handles) _ (λ handle handle_is.
    ok_bind _ (index_or_refusal r handle) _ (λ index.
    ok_bind_is _ (only (auth_value_at q.parameters)) _ (λ value value_is.
    ok_bind _ (refused_if (nat_lt (digest_size index.public.name_alg) (length value))
    (parameter_refusal action.First 1 code.Size)) _ (λ a1.
    let set : changed_value q ≡ Ok (handle, value) = rw (handle_is, value_is) refl in
    let fit : FitsRule r (admin kind.NvIndex) handle =
    first_fits r (admin kind.NvIndex) [] q.handles handle fits handle_is in
    by handle value set (with_auth_value r.nv handle value) (index_changed r handle value fit.0)))))
  where
    by : (handle : Handle) (value : List ℕ) → changed_value q ≡ Ok (handle, value)
        → (new : Result NvContents Undefined)
        → IfOk new (λ nv. Sets handle value r (record r { nv = nv }))
        → IfOk (or_refusal (λ absence. handle_refusal) new >>= λ nv. Ok (changed_nv r nv))
        (λ s. HaveValues s.after (with_value (changed_value q) values))
    by handle value set (Ok nv) sets =
        set_is r (record r { nv = nv }) values handle value (changed_value q) set sets have
    by handle value set (Err fault) sets = tt

define_sets : (r : Record) (q : Request) (values : AuthValues) → HaveValues r values
    → IfOk (row_of r command.NvDefineSpace q)
    (λ s. HaveValues s.after (with_value (defined_value q) values))
define_sets r q values have =
    of_success _ r command.NvDefineSpace q (λ s laws. by s.after laws.touches laws.changes)
  where
    by : (new : Record) → new ≡ record r { nv = new.nv } → Defines q r.nv new.nv
        → HaveValues new (with_value (defined_value q) values)
    by new touches made =
        let handle : Handle = made.parameters.public.nv_index in
        let index : NvIndex = defined_index made.parameters.public made.parameters.auth_value in
        let named : is_nv_index handle ≡ true =
        (ok_at IsDefinition (definition.parameters_in q.parameters) made.parameters
        (definition_read q.parameters) made.read).named in
        let set : defined_value q ≡ Ok (handle, index.auth_value) = rw made.read refl in
        let put = index_keys.put_found r.nv.indices handle.number index made.free in
        let is : new ≡ record r { nv = with_index r.nv handle index } =
        touches ∙ ap (λ (nv : NvContents). record r { nv = nv }) made.is in
        subst (λ (x : Record). HaveValues x (with_value (defined_value q) values)) (sym is)
        (set_is r (record r { nv = with_index r.nv handle index }) values handle index.auth_value
        (defined_value q) set
        (index_set r (with_index r.nv handle index) handle index named put
        (index_keys.put_others r.nv.indices handle.number index))
        have)

-- ---- transient objects

pub placed_sets : (r : Record) (place : ℕ) (object : Object) → length r.objects ≡ object_limit
    → lowest_free r.objects ≡ Some place
    → Sets (object_handle place) object.auth_value r
    (record r { objects = with_object r.objects place object })
placed_sets r place object all free =
    object_set r (with_object r.objects place object) (object_handle place) object
    (eq-eqb (number_of 0x80 place / 2 ^ 24) 0x80 (omega (arith, below)))
    (put_found transient_byte r.objects place object (omega (arith, below)) free)
    (λ n apart. put_others transient_byte r.objects place object n (omega (arith, below)) free
    apart)
  where
    below : place < 8
    below = omega (arith, (lowest_free-free r.objects place free).0, all)

primary_value : (r : Record) (hierarchy : HierarchyHandle) (p : creation.Parameters)
    → (primary_from_seed r hierarchy p).auth_value ≡ trimmed p.given.user_auth
unfolding primary_object primary_areas new_object_areas
primary_value r hierarchy p = trimmed_twice p.given.user_auth

create_sets : (r : Record) (q : Request) (values : AuthValues) → length r.objects ≡ object_limit
    → HaveValues r values → IfOk (row_of r command.CreatePrimary q)
    (λ s. HaveValues s.after (with_value (created_value q s.answer.handle) values))
unfolding row_of create_primary_row
create_sets r q values all have =
    ok_bind _ (first_handle q.handles) _ (λ handle.
    ok_bind _ (named_hierarchy handle) _ (λ hierarchy.
    ok_bind_is _ (creation.parameters_in q.parameters) _ (λ p p_is.
    ok_bind _ (public_passes 0 true p.template) _ (λ t.
    ok_bind _ (given_passes 3 p.given p.template) _ (λ c.
    ok_bind_is _ (place_for action.Seventh r) _ (λ place free.
    let object : Object = primary_from_seed r hierarchy p in
    let set : created_value q (Some (object_handle place))
    ≡ Ok (object_handle place, object.auth_value) =
    rw (p_is, primary_value r hierarchy p) refl in
    set_is r (record r { objects = with_object r.objects place object }) values
    (object_handle place) object.auth_value (created_value q (Some (object_handle place))) set
    (placed_sets r place object all (some_is _ _ place free)) have))))))

load_sets : (r : Record) (q : Request) (values : AuthValues) → length r.objects ≡ object_limit
    → HaveValues r values → IfOk (row_of r command.Load q)
    (λ s. HaveValues s.after
    (with_value (loaded_value (if_ok (loaded_sensitive r q)) s.answer.handle) values))
unfolding row_of load_row loaded_sensitive
load_sets r q values all have =
    ok_bind_is _ (first_handle q.handles) _ (λ handle handle_is.
    ok_bind_is _ (loaded_at r handle) _ (λ parent parent_is.
    ok_bind_is _ (load.parameters_in q.parameters) _ (λ p p_is.
    ok_bind _ (parent_passes parent) _ (λ a1.
    ok_bind _ (public_passes 1 (is_fixed parent) p.public) _ (λ t.
    ok_bind_is _ (sensitive_of parent p.public p.private) _ (λ area area_is.
    ok_bind_is _ (place_for action.Sixth r) _ (λ place free.
    let object : Object = loaded_below parent p.public area in
    let loaded : loaded_sensitive r q ≡ Ok area = rw (handle_is, parent_is, p_is) area_is in
    let set : loaded_value (if_ok (loaded_sensitive r q)) (Some (object_handle place))
    ≡ Ok (object_handle place, trimmed area.auth_value) =
    ap (λ x. loaded_value (if_ok x) (Some (object_handle place))) loaded in
    set_is r (record r { objects = with_object r.objects place object }) values
    (object_handle place) (trimmed area.auth_value)
    (loaded_value (if_ok (loaded_sensitive r q)) (Some (object_handle place))) set
    (placed_sets r place object all (some_is _ _ place free)) have)))))))

-- ---- persistent objects

object_keys : IsSortedMap Object
object_keys = is_map

object_seen : (r : Record) (handle : Handle) (object : Object)
    → (is_transient handle || is_persistent handle) ≡ true → object_of r handle ≡ Some object
    → auth_seen r handle ≡ Some object.auth_value
unfolding object_of
object_seen r handle object named =
    cond_both (is_persistent handle) (persistent_at r.persistent handle)
    (object_at r.objects handle) (λ found. found ≡ Some object
    → auth_seen r handle ≡ Some object.auth_value)
    (λ persistent is. persistent_seen r handle persistent ∙ ap object_auth is)
    (λ other is. transient_seen r handle (transient other) ∙ ap object_auth is)
  where
    transient : is_persistent handle ≡ false → is_transient handle ≡ true
    transient other =
        elim (or_cases (is_transient handle) (is_persistent handle) named) [
          | inl is ↦ is
          | inr is ↦ absurd (false≢true (sym other ∙ is))
        ]

set_again : (values : AuthValues) (to from : Handle) → to.number ≡ from.number → (h : Handle)
    → with_at to (values from) values h ≡ values h
set_again values to from same h =
    cond_both (h.number == to.number) (values from) (values h) (λ v. v ≡ values h)
    (λ here. ap values (same_handle from h (sym same ∙ sym (eqb-true h.number to.number here))))
    (λ apart. refl)

evict_sets : (r : Record) (q : Request) (values : AuthValues) → Ascends r.persistent
    → HandlesFit r (shape_of command.EvictControl).handles q.handles → HaveValues r values
    → IfOk (row_of r command.EvictControl q)
    (λ s. HaveValues s.after (with_value (copied_value q values) values))
unfolding row_of evict_control_row shape_of
evict_sets r q values up fits have =
    ok_bind _ (first_handle q.handles) _ (λ authority.
    ok_bind_is _ (second_handle q.handles) _ (λ handle handle_is.
    ok_bind_is _ (loaded_at r handle) _ (λ object object_is.
    ok_bind_is _ (only (persistent_handle_at q.parameters)) _ (λ wanted wanted_is.
    ok_bind _ (eviction_passes (authority.number == platform_handle.number) (is_persistent handle)
    object wanted) _ (λ passes.
    let set : copied_value q values ≡ Ok (wanted, values handle) = rw (handle_is, wanted_is) refl in
    let fit : FitsRule r (rule_without_role kind.Object) handle =
    second_fits r (user kind.Provision) (rule_without_role kind.Object) [] q.handles handle fits
    handle_is in
    let value : object.auth_value ≡ values handle =
    have handle object.auth_value
    (object_seen r handle object fit.0 (some_is _ _ object object_is)) in
    let named : is_persistent wanted ≡ true =
    ok_at (λ handle. is_persistent handle ≡ true) (only (persistent_handle_at q.parameters))
    wanted (wanted_named q.parameters) wanted_is in
    ok_then (Evicted handle wanted) _ (objects_after_eviction r.persistent handle object wanted) _
    (either handle object wanted named value) (λ persistent done.
    subst (λ (x : Result (Handle × List ℕ) Refused). HaveValues
    (record r { persistent = persistent }) (with_value x values)) (sym set) done))))))
  where
    Evicted : Handle → Handle → Entries Object → Type 0
    Evicted handle wanted persistent =
        HaveValues (record r { persistent = persistent }) (with_at wanted (values handle) values)

    either : (handle : Handle) (object : Object) (wanted : Handle) → is_persistent wanted ≡ true
        → object.auth_value ≡ values handle
        → IfOk (objects_after_eviction r.persistent handle object wanted) (Evicted handle wanted)
    either handle object wanted named value =
        cond_both (is_persistent handle) (remaining_objects r.persistent handle wanted)
        (objects_with_copy r.persistent object wanted) (λ x. IfOk x (Evicted handle wanted))
        (λ removes.
        ok_bind_is _ (refused_if (not (wanted.number == handle.number)) _) _ (λ a4 same.
        let new : Record = record r { persistent = without_persistent r.persistent handle } in
        let kept : HaveValues new values =
        kept_values r new values
        (λ h. parts_keep r new h (λ v is. is)
        (object_kept _ _ (removed_or_same r.persistent handle.number h.number up))
        (λ v is. is) refl) have in
        λ h v is. kept h v is
        ∙ sym (set_again values wanted handle
        (eqb-true wanted.number handle.number (asked _ _ a4 same)) h)))
        (λ copies.
        ok_bind_is _ (refused_if (is_some (persistent_at r.persistent wanted)) _) _ (λ a5 free.
        ok_bind _ (refused_if (nat_le persistent_limit (length r.persistent)) _) _ (λ a6.
        let new : Record = record r { persistent = with_persistent r.persistent wanted object } in
        let put = object_keys.put_found r.persistent wanted.number object
        (absent (persistent_at r.persistent wanted) _ a5 free) in
        set_values r new values wanted (values handle)
        (subst (λ (v : List ℕ). Sets wanted v r new) value
        (persistent_set r new.persistent wanted object named put
        (object_keys.put_others r.persistent wanted.number object)))
        have)))

-- ---- TPM2_Startup

started_shows : (found : Option NvIndex) → index_auth (option_map started_index found)
    ≡ index_auth found
started_shows None = refl
started_shows (Some index) = refl

started_same : (nv : NvContents) → ShowSame nv (contents_after_startup nv)
unfolding contents_after_startup
started_same nv n = ap index_auth (all_changed_found started_index nv.indices n)
    ∙ started_shows (at_key nv.indices n)

-- TPM2_Startup with CLEAR makes platformAuth empty.
cleared_start : (r : Record) (fixed : Fixed) (values : AuthValues)
    → ((h : Handle) → permanent_auth_value (record r { fixed = fixed }) h
    ≡ permanent_auth_value (with_auth r auth.Platform []) h) → HaveValues r values
    → HaveValues (record r { fixed = fixed; nv = contents_after_startup r.nv })
    (with_at platform_handle [] values)
cleared_start r fixed values same have =
    let mid : Record = with_auth r auth.Platform [] in
    let new : Record = record r { fixed = fixed; nv = contents_after_startup r.nv } in
    kept_values mid new (with_at platform_handle [] values)
    (λ h. parts_keep mid new h (same_kept (started_same r.nv h.number)) (λ v is. is) (λ v is. is)
    (same h))
    (set_values r mid values platform_handle [] (hierarchy_set r auth.Platform []) have)

starts : (r : Record) (t : StartupType) (was : SavedKind) (random : List ℕ) (values : AuthValues)
    → HaveValues r values
    → IfOk (start_of t was)
    (λ start. HaveValues (started_record start r random) (started_values (Ok t) values))
starts r type.Clear saved.Nothing random values have = search (rules, cleared_start)
starts r _ _ random values have = search (rules, cleared_start)

startup_sets : (r : Record) (q : Request) (values : AuthValues) → HaveValues r values
    → IfOk (row_of r command.Startup q)
    (λ s. HaveValues s.after (started_values (only (startup_type_at q.parameters)) values))
unfolding row_of startup_row
startup_sets r q values have =
    ok_bind_is _ (only (startup_type_at q.parameters)) _ (λ t t_is.
    ok_then (λ start. HaveValues (started_record start r q.random) (started_values (Ok t) values)) _
    (start_of t (kind_of r.fixed.saved)) _
    (starts r t (kind_of r.fixed.saved) q.random values have) (λ start new.
    subst (λ (x : Result StartupType Refused). HaveValues (started_record start r q.random)
    (started_values x values)) (sym t_is) new))

-- ---- TPM2_Clear

cleared_or_same : (objects : List (Option Object)) (n : ℕ)
    → (at_number transient_byte (cleared_objects objects) n ≡ at_number transient_byte objects n)
    ⊎ (at_number transient_byte (cleared_objects objects) n ≡ None)
cleared_or_same objects n = by (at_number transient_byte objects n) refl
  where
    by : (found : Option Object) → at_number transient_byte objects n ≡ found
        → (at_number transient_byte (cleared_objects objects) n ≡ found)
        ⊎ (at_number transient_byte (cleared_objects objects) n ≡ None)
    by None none = inr (are_cleared.absent objects n none)
    by (Some object) there =
        elim (cases_Bool (is_cleared object.hierarchy)) [
          | inl goes ↦ inr (are_cleared.gone objects n object there goes)
          | inr stays ↦ inl (are_cleared.stays objects n object there stays)
        ]

-- After TPM2_Clear, ownerAuth, endorsementAuth and lockoutAuth are empty, and the removed objects
-- and indices have no authorization value.
all_cleared : (r : Record) (after : Fixed) (values : AuthValues) → Ascends r.nv.indices
    → Ascends r.persistent → HaveValues r values
    → HaveValues
    (record r {
      fixed = emptied_fixed r.fixed after;
      objects =
          cleared_objects r.objects;
      persistent = cleared_persistent r.persistent;
      nv =
          contents_after_clear r.nv;
    }) (cleared_values values)
unfolding object_at with_hierarchy_auth contents_after_clear
all_cleared r after values up also have =
    let first : Record = with_auth r auth.Lockout [] in
    let second : Record = with_auth first auth.Endorsement [] in
    let third : Record = with_auth second auth.Owner [] in
    let new : Record =
    record r {
      fixed = emptied_fixed r.fixed after;
      objects =
          cleared_objects r.objects;
      persistent = cleared_persistent r.persistent;
      nv =
          contents_after_clear r.nv;
    } in
    kept_values third new (cleared_values values)
    (λ h.
    parts_keep third new h
    (index_kept _ _ (kept_or_gone (λ (index : NvIndex). is_by_platform index.public) r.nv.indices
    h.number up))
    (object_kept _ _ (kept_or_gone outlasts r.persistent h.number also))
    (object_kept _ _ (cleared_or_same r.objects h.number))
    refl)
    (set_values second third (with_at endorsement_handle [] (with_at lockout_handle [] values))
    owner_handle [] (hierarchy_set second auth.Owner [])
    (set_values first second (with_at lockout_handle [] values) endorsement_handle []
    (hierarchy_set first auth.Endorsement [])
    (set_values r first values lockout_handle [] (hierarchy_set r auth.Lockout []) have)))

clear_sets : (r : Record) (q : Request) (values : AuthValues) → Ascends r.nv.indices
    → Ascends r.persistent → HaveValues r values
    → IfOk (row_of r command.Clear q) (λ s. HaveValues s.after (cleared_values values))
clear_sets r q values up also have =
    ok_weaker (λ s. Touches Cleared r s.after) (λ s. HaveValues s.after (cleared_values values))
    (row_of r command.Clear q) (row_touches r command.Clear q)
    (λ s touches. subst (λ (new : Record). HaveValues new (cleared_values values)) (sym touches)
    (all_cleared r s.after.fixed values up also have))

-- ---- all rows

kept_all : (r : Record) (code : CommandCode) (q : Request) (values : AuthValues)
    → HaveValues r values → IfOk (row_of r code q) (λ s. KeepsAll r s.after)
    → IfOk (row_of r code q) (λ s. HaveValues s.after values)
kept_all r code q values have keeps =
    ok_weaker (λ s. KeepsAll r s.after) (λ s. HaveValues s.after values) (row_of r code q) keeps
    (λ s kept. kept_values r s.after values kept have)

pub row_sets : (r : Record) (code : CommandCode) (q : Request) (values : AuthValues)
    → HandlesFit r (shape_of code).handles q.handles → length r.objects ≡ object_limit
    → Ascends r.nv.indices → Ascends r.persistent → HaveValues r values
    → IfOk (row_of r code q)
    (λ s. HaveValues s.after (values_by code q s.answer.handle (sensitive_in code r q) values))
row_sets r command.HierarchyChangeAuth q values fits all up also have =
    change_auth_sets r q values fits have
row_sets r command.NvChangeAuth q values fits all up also have =
    nv_change_auth_sets r q values fits have
row_sets r command.NvDefineSpace q values fits all up also have = define_sets r q values have
row_sets r command.CreatePrimary q values fits all up also have = create_sets r q values all have
row_sets r command.Load q values fits all up also have = load_sets r q values all have
row_sets r command.EvictControl q values fits all up also have =
    evict_sets r q values also fits have
row_sets r command.Startup q values fits all up also have = startup_sets r q values have
row_sets r command.Clear q values fits all up also have = clear_sets r q values up also have
row_sets r command.FlushContext q values fits all up also have =
    kept_all r command.FlushContext q values have (flush_keeps r q)
row_sets r _ q values fits all up also have = kept_all r _ q values have (others_keep r _ q refl up)

-- The rows for the device itself, for PCRs and for hierarchies reveal nothing about secrets.
use Rattle.std.proofs.Common.{ap, refl, subst, sym}
use Rattle.std.specs.Option.{option_map_or}
use Rattle.std.specs.Prelude.{Bool, List, None, Ok, Option, Some, [], cond, drop, false, option_map, take, true, ℕ, ◌≡◌}
use Rattle.tpm_actions_device.specs.Clear.{clear_row, cleared_fixed}
use Rattle.tpm_actions_device.specs.ClearControl.{clear_control_row, with_disable_clear}
use Rattle.tpm_actions_device.specs.ClockRateAdjust.{clock_rate_adjust_row}
use Rattle.tpm_actions_device.specs.ClockSet.{clock_set_row, with_clock}
use Rattle.tpm_actions_device.specs.DictionaryAttackLockReset.{dictionary_attack_lock_reset_row}
use Rattle.tpm_actions_device.specs.DictionaryAttackParameters.{dictionary_attack_parameters_row}
use Rattle.tpm_actions_device.specs.GetRandom.{get_random_row}
use Rattle.tpm_actions_device.specs.GetTestResult.{get_test_result_row}
use Rattle.tpm_actions_device.specs.Hash.{HashParameters, hash_answer, hash_parameters_in, hash_row, proof_for, ticket_hierarchy}
use Rattle.tpm_actions_device.specs.HierarchyChangeAuth.{hierarchy_change_auth_row}
use Rattle.tpm_actions_device.specs.IncrementalSelfTest.{incremental_self_test_row}
use Rattle.tpm_actions_device.specs.PcrChange.{with_banks}
use Rattle.tpm_actions_device.specs.PcrEvent.{pcr_event_row}
use Rattle.tpm_actions_device.specs.PcrExtend.{pcr_extend_row}
use Rattle.tpm_actions_device.specs.PcrRead.{pcr_read_row}
use Rattle.tpm_actions_device.specs.PcrReset.{pcr_reset_row}
use Rattle.tpm_actions_device.specs.ReadClock.{read_clock_row}
use Rattle.tpm_actions_device.specs.SelfTest.{self_test_row}
use Rattle.tpm_actions_device.specs.Shutdown.{shutdown_row}
use Rattle.tpm_actions_device.specs.StirRandom.{stir_random_row}
use Rattle.tpm_actions_device.specs.Startup.{reset_fixed, restart_fixed, resume_fixed, start_of, started_record, startup_row}
use Rattle.tpm_actions_device.specs.declared.startup.Start.{Start}
use Rattle.tpm_actions_device.specs.declared.startup.Start.TheVariants.{Reset, Restart, Resume}
use Rattle.tpm_actions_device.specs.TestParms.{test_parms_row}
use Rattle.tpm_bytes.specs.Reading.{refused_if}
use Rattle.tpm_lockout.specs.Lockout.{LockoutState}
use Rattle.tpm_nv.specs.Clear.{contents_after_clear}
use Rattle.tpm_nv.specs.Startup.{contents_after_startup}
use Rattle.tpm_object.specs.declared.object.Object.{Object}
use Rattle.tpm_pcr.specs.Changes.{clear_counted}
use Rattle.tpm_pcr.specs.Values.{BankValues}
use Rattle.tpm_record.specs.Clear.{cleared_objects, cleared_persistent, cleared_place, is_cleared, outlasts}
use Rattle.tpm_record.specs.Entity.{with_hierarchy_auth}
use Rattle.tpm_record.specs.Hierarchy.{cleared_hierarchies, secrets_of}
use Rattle.tpm_record.specs.Record.{Record, with_lockout, with_saved}
use Rattle.tpm_record.specs.Saved.{SavedState, kind_of}
use Rattle.tpm_record.specs.declared.fixed.Fixed.{Fixed}
use Rattle.tpm_record.specs.declared.hierarchy.Hierarchies.{Hierarchies}
use Rattle.tpm_record.specs.rows.Answer.{AnswerParts, nothing}
use Rattle.tpm_record.specs.rows.Refusals.{action_refusal, or_refusal}
use Rattle.tpm_record.specs.rows.Request.{Request, first_handle}
use Rattle.tpm_record.specs.rows.Rows.{all_read, only, unchanged_success}
use Rattle.tpm_types_common.specs.AuthValue.{auth_value_at}
use Rattle.tpm_types_common.specs.Handle.{hierarchy_auth_of}
use Rattle.tpm_types_common.specs.Rc.{plain}
use Rattle.tpm_types_common.specs.StartupType.{startup_type_at}
use Rattle.tpm_types_common.specs.declared.handle.HierarchyAuth.{HierarchyAuth}
use Rattle.tpm_types_common.specs.declared.handle.HierarchyHandle.{HierarchyHandle}
use Rattle.tpm_types_common.specs.declared.handle.HierarchyHandle.TheVariants as hierarchy
use Rattle.tpm_row_secrecy.proofs.Bare.{hierarchies_again, object_again, objects_again, persistent_again, same_parts, sessions_again, unless_again, with_fixed}
use Rattle.tpm_row_secrecy.proofs.Changes.{cleared_same, started_same}
use Rattle.tpm_row_secrecy.proofs.Each.{all_places_same, kept_same, places}
use Rattle.tpm_row_secrecy.proofs.Steps.{same_change, same_end, same_step, same_steps, same_unchanged}
use Rattle.tpm_row_secrecy.specs.Alike.{Same}
use Rattle.tpm_row_secrecy.specs.Secrecy.{Secrecy, bare_fixed, bare_hierarchies, bare_nv, bare_object, without_secrets}
use Rattle.tpm_types_common.specs.declared.action_check.ActionCheck.TheVariants as action
use Rattle.tpm_types_common.specs.declared.rc.ResponseCode.TheVariants as code
use Rattle.tpm_types_common.specs.declared.handle.HierarchyAuth.TheVariants as auth

module _ (s : Secrecy) (r : Record) (q : Request) where
  pub self_test_tells : Same s (self_test_row (without_secrets s r) q) (self_test_row r q)
  unfolding self_test_row
  self_test_tells = search same_steps depth 12

  pub get_test_result_tells : Same s (get_test_result_row (without_secrets s r) q)
      (get_test_result_row r q)
  unfolding get_test_result_row
  get_test_result_tells = search same_steps depth 12

  pub incremental_self_test_tells : Same s (incremental_self_test_row (without_secrets s r) q)
      (incremental_self_test_row r q)
  unfolding incremental_self_test_row
  incremental_self_test_tells = search same_steps depth 12

  pub test_parms_tells : Same s (test_parms_row (without_secrets s r) q) (test_parms_row r q)
  unfolding test_parms_row
  test_parms_tells = search same_steps depth 12

  pub stir_random_tells : Same s (stir_random_row (without_secrets s r) q) (stir_random_row r q)
  unfolding stir_random_row
  stir_random_tells = search same_steps depth 12

  pub read_clock_tells : Same s (read_clock_row (without_secrets s r) q) (read_clock_row r q)
  unfolding read_clock_row
  read_clock_tells = search same_steps depth 12

  pub get_random_tells : Same s (get_random_row (without_secrets s r) q) (get_random_row r q)
  unfolding get_random_row
  get_random_tells = search same_steps depth 12

  pub pcr_read_tells : Same s (pcr_read_row (without_secrets s r) q) (pcr_read_row r q)
  unfolding pcr_read_row
  pcr_read_tells = search same_steps depth 12

  -- ---- changes of the fixed part, except hierarchies

  banks_end : (answer : AnswerParts) (banks : BankValues)
      → Same s (Ok (record { answer = answer; after = with_banks (without_secrets s r) banks }))
      (Ok (record { answer = answer; after = with_banks r banks }))
  banks_end answer banks = same_change s r answer (λ t. with_banks t banks) (λ t. refl)

  pub pcr_extend_tells : Same s (pcr_extend_row (without_secrets s r) q) (pcr_extend_row r q)
  unfolding pcr_extend_row
  pcr_extend_tells = search (same_steps, banks_end) depth 12

  pub pcr_event_tells : Same s (pcr_event_row (without_secrets s r) q) (pcr_event_row r q)
  unfolding pcr_event_row
  pcr_event_tells = search (same_steps, banks_end) depth 12

  pub pcr_reset_tells : Same s (pcr_reset_row (without_secrets s r) q) (pcr_reset_row r q)
  unfolding pcr_reset_row
  pcr_reset_tells = search (same_steps, banks_end) depth 12

  saved_end : (answer : AnswerParts) (saved : SavedState)
      → Same s (Ok (record { answer = answer; after = with_saved (without_secrets s r) saved }))
      (Ok (record { answer = answer; after = with_saved r saved }))
  saved_end answer saved = same_change s r answer (λ t. with_saved t saved) (λ t. refl)

  pub shutdown_tells : Same s (shutdown_row (without_secrets s r) q) (shutdown_row r q)
  unfolding shutdown_row
  shutdown_tells = search (same_steps, saved_end) depth 12

  lockout_end : (answer : AnswerParts) (lockout : LockoutState)
      → Same s (Ok (record { answer = answer; after = with_lockout (without_secrets s r) lockout }))
      (Ok (record { answer = answer; after = with_lockout r lockout }))
  lockout_end answer lockout = same_change s r answer (λ t. with_lockout t lockout) (λ t. refl)

  pub dictionary_attack_lock_reset_tells : Same s
      (dictionary_attack_lock_reset_row (without_secrets s r) q)
      (dictionary_attack_lock_reset_row r q)
  unfolding dictionary_attack_lock_reset_row
  dictionary_attack_lock_reset_tells = search (same_steps, lockout_end) depth 12

  pub dictionary_attack_parameters_tells : Same s
      (dictionary_attack_parameters_row (without_secrets s r) q)
      (dictionary_attack_parameters_row r q)
  unfolding dictionary_attack_parameters_row
  dictionary_attack_parameters_tells = search (same_steps, lockout_end) depth 12

  clearing_end : (answer : AnswerParts) (disables : Bool)
      → Same s
      (Ok (record { answer = answer; after = with_disable_clear (without_secrets s r) disables }))
      (Ok (record { answer = answer; after = with_disable_clear r disables }))
  clearing_end answer disables =
      same_change s r answer (λ t. with_disable_clear t disables) (λ t. refl)

  pub clear_control_tells : Same s (clear_control_row (without_secrets s r) q)
      (clear_control_row r q)
  unfolding clear_control_row
  clear_control_tells = search (same_steps, clearing_end) depth 12

  clock_end : (answer : AnswerParts) (clock : ℕ)
      → Same s (Ok (record { answer = answer; after = with_clock (without_secrets s r) clock }))
      (Ok (record { answer = answer; after = with_clock r clock }))
  clock_end answer clock = same_change s r answer (λ t. with_clock t clock) (λ t. refl)

  pub clock_set_tells : Same s (clock_set_row (without_secrets s r) q) (clock_set_row r q)
  unfolding clock_set_row
  clock_set_tells = search (same_steps, clock_end) depth 12

  pub clock_rate_adjust_tells : Same s (clock_rate_adjust_row (without_secrets s r) q)
      (clock_rate_adjust_row r q)
  unfolding clock_rate_adjust_row
  clock_rate_adjust_tells = search same_steps depth 12

  -- ---- TPM2_Hash

  -- the proofs of the hierarchies are no secrets here
  proof_same : (h : HierarchyHandle)
      → (secrets_of (bare_hierarchies s r.fixed.hierarchies) h).proof
      ≡ (secrets_of r.fixed.hierarchies h).proof
  proof_same hierarchy.Owner = refl
  proof_same hierarchy.Endorsement = refl
  proof_same hierarchy.Platform = refl
  proof_same hierarchy.Null = refl

  hash_end : (p : HashParameters)
      → Same s (Ok (unchanged_success (without_secrets s r)
      (hash_answer (proof_for (without_secrets s r) p) p)))
      (Ok (unchanged_success r (hash_answer (proof_for r p) p)))
  hash_end p =
      subst (λ (proof : List ℕ). Same s
      (Ok (unchanged_success (without_secrets s r) (hash_answer proof p)))
      (Ok (unchanged_success r (hash_answer (proof_for r p) p))))
      (sym (proof_same (ticket_hierarchy p.asked p.message)))
      (same_unchanged s r (hash_answer (proof_for r p) p))

  pub hash_tells : Same s (hash_row (without_secrets s r) q) (hash_row r q)
  unfolding hash_row
  hash_tells = same_step s (hash_parameters_in q.parameters) _ _ hash_end

  -- ---- hierarchies

  auth_set : (h : Hierarchies) (a : HierarchyAuth) (value : List ℕ)
      → bare_hierarchies s (with_hierarchy_auth (bare_hierarchies s h) a value)
      ≡ bare_hierarchies s (with_hierarchy_auth h a value)
  unfolding with_hierarchy_auth
  auth_set h auth.Owner value =
      rw (
        unless_again _ h.endorsement.auth_value,
        unless_again _ h.platform.auth_value,
        unless_again _ h.lockout_auth,
      ) refl
  auth_set h auth.Lockout value =
      rw (
        unless_again _ h.owner.auth_value,
        unless_again _ h.endorsement.auth_value,
        unless_again _ h.platform.auth_value,
      ) refl
  auth_set h auth.Endorsement value =
      rw (
        unless_again _ h.owner.auth_value,
        unless_again _ h.platform.auth_value,
        unless_again _ h.lockout_auth,
      ) refl
  auth_set h auth.Platform value =
      rw (
        unless_again _ h.owner.auth_value,
        unless_again _ h.endorsement.auth_value,
        unless_again _ h.lockout_auth,
      ) refl

  named_auth_set : (h : Hierarchies) (a : Option HierarchyAuth) (value : List ℕ)
      → bare_hierarchies s
      (option_map_or (λ x. with_hierarchy_auth (bare_hierarchies s h) x value) a
      (bare_hierarchies s h)) ≡ bare_hierarchies s
      (option_map_or (λ x. with_hierarchy_auth h x value) a h)
  named_auth_set h None value = hierarchies_again s h
  named_auth_set h (Some a) value = auth_set h a value

  pub hierarchy_change_auth_tells : Same s (hierarchy_change_auth_row (without_secrets s r) q)
      (hierarchy_change_auth_row r q)
  unfolding hierarchy_change_auth_row
  hierarchy_change_auth_tells =
      same_step s (first_handle q.handles) _ _ (λ handle.
      same_step s (only (auth_value_at q.parameters)) _ _ (λ value.
      same_end s nothing _ _
      (with_fixed s r _ _
      (ap (λ (h : Hierarchies). record r.fixed { hierarchies = h })
      (named_auth_set r.fixed.hierarchies (hierarchy_auth_of handle) value)))))

  -- ---- TPM2_Startup

  reset_same : bare_fixed s (reset_fixed (bare_fixed s r.fixed) q.random)
      ≡ bare_fixed s (reset_fixed r.fixed q.random)
  unfolding with_hierarchy_auth
  reset_same =
      ap (λ (h : Hierarchies). record (reset_fixed r.fixed q.random) {
        hierarchies =
            record h {
              null = record { seed = take 32 q.random; proof = take 32 (drop 32 q.random) };
            };
      }) (auth_set r.fixed.hierarchies auth.Platform [])

  restart_same : bare_fixed s (restart_fixed (bare_fixed s r.fixed))
      ≡ bare_fixed s (restart_fixed r.fixed)
  unfolding with_hierarchy_auth
  restart_same = ap (λ (h : Hierarchies). record (restart_fixed r.fixed) { hierarchies = h })
      (auth_set r.fixed.hierarchies auth.Platform [])

  resume_same : bare_fixed s (resume_fixed (bare_fixed s r.fixed))
      ≡ bare_fixed s (resume_fixed r.fixed)
  resume_same = ap (λ (h : Hierarchies). record (resume_fixed r.fixed) { hierarchies = h })
      (hierarchies_again s r.fixed.hierarchies)

  with_start : (f g : Fixed) → bare_fixed s f ≡ bare_fixed s g
      → without_secrets s
      (record (without_secrets s r) { fixed = f; nv = contents_after_startup (bare_nv s r.nv) })
      ≡ without_secrets s (record r { fixed = g; nv = contents_after_startup r.nv })
  with_start f g same =
      same_parts s
      (record (without_secrets s r) { fixed = f; nv = contents_after_startup (bare_nv s r.nv) })
      (record r { fixed = g; nv = contents_after_startup r.nv }) same (sessions_again s r.sessions)
      (objects_again s r.objects) (persistent_again s r.persistent) (started_same s r.nv)

  start_same : (start : Start)
      → without_secrets s (started_record start (without_secrets s r) q.random)
      ≡ without_secrets s (started_record start r q.random)
  start_same Reset = with_start (reset_fixed (bare_fixed s r.fixed) q.random)
      (reset_fixed r.fixed q.random) reset_same
  start_same Restart = with_start (restart_fixed (bare_fixed s r.fixed)) (restart_fixed r.fixed)
      restart_same
  start_same Resume = with_fixed s r (resume_fixed (bare_fixed s r.fixed)) (resume_fixed r.fixed)
      resume_same

  pub startup_tells : Same s (startup_row (without_secrets s r) q) (startup_row r q)
  unfolding startup_row
  startup_tells =
      same_step s (only (startup_type_at q.parameters)) _ _ (λ type.
      same_step s (start_of type (kind_of r.fixed.saved)) _ _ (λ start.
      same_end s _ _ _ (start_same start)))

  -- ---- TPM2_Clear

  cleared_fixed_same : (banks : BankValues)
      → bare_fixed s (cleared_fixed banks q.random (bare_fixed s r.fixed))
      ≡ bare_fixed s (cleared_fixed banks q.random r.fixed)
  unfolding cleared_hierarchies
  cleared_fixed_same banks =
      ap (λ (value : List ℕ). record (cleared_fixed banks q.random r.fixed) {
        hierarchies =
            record (bare_hierarchies s
            (cleared_hierarchies r.fixed.hierarchies q.random)) {
              platform =
                  record r.fixed.hierarchies.platform { auth_value = value };
            };
      })
      (unless_again _ r.fixed.hierarchies.platform.auth_value)

  cleared_place_same : (place : Option Object)
      → option_map (bare_object s) (cleared_place (option_map (bare_object s) place))
      ≡ option_map (bare_object s) (cleared_place place)
  cleared_place_same None = refl
  cleared_place_same (Some o) = by (is_cleared o.hierarchy)
    where
      by : (b : Bool) → option_map (bare_object s) (cond b None (Some (bare_object s o)))
          ≡ option_map (bare_object s) (cond b None (Some o))
      by true = refl
      by false = ap (λ (x : Object). Some x) (object_again s o)

  cleared_objects_same : places (bare_object s) (cleared_objects (places (bare_object s) r.objects))
      ≡ places (bare_object s) (cleared_objects r.objects)
  unfolding cleared_objects
  cleared_objects_same = all_places_same (bare_object s) (object_again s) cleared_place
      cleared_place_same r.objects

  pub clear_tells : Same s (clear_row (without_secrets s r) q) (clear_row r q)
  unfolding clear_row
  clear_tells =
      same_step s (all_read q.parameters) _ _ (λ ended.
      same_step s
      (refused_if r.fixed.disable_clear (action_refusal action.First (plain code.Disabled))) _ _
      (λ a1.
      same_step s (or_refusal (λ fault. action_refusal action.Second (plain code.Failure))
      (clear_counted r.fixed.banks)) _ _ (λ banks.
      same_end s _ _ _
      (same_parts s _
      (record {
        fixed = cleared_fixed banks q.random r.fixed;
        sessions = r.sessions;
        objects =
            cleared_objects r.objects;
        persistent = cleared_persistent r.persistent;
        nv =
            contents_after_clear r.nv;
      }) (cleared_fixed_same banks) (sessions_again s r.sessions)
      cleared_objects_same
      (kept_same (bare_object s) (object_again s) outlasts (λ o. refl) r.persistent)
      (cleared_same s r.nv)))))

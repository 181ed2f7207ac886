-- Five rows read random bytes. Each of these rows reads only the first random bytes, as many as it
-- reports as drawn. The other rows read none.
use Rattle.std.proofs.Common.{◌≡◌, ◌+◌, ℕ, List, None, Some, take, slice_set, Result, Ok, Err, refl, ap, arith}
use Rattle.std.specs.Prelude.{min}
use Rattle.std.specs.Int.{w16}
use Rattle.tpm_bytes.specs.Reading.{◌>>=◌, number_at, or_fault, refused_if}
use Rattle.tpm_pcr.specs.Changes.{clear_counted}
use Rattle.tpm_object.specs.Areas.{created_areas}
use Rattle.tpm_object.specs.Creation.{drawn_by, generated_size}
use Rattle.tpm_mac.specs.Digest.{digest_size}
use Rattle.tpm_types_common.specs.Rc.{plain}
use Rattle.tpm_types_common.specs.StartupType.{startup_type_at}
use Rattle.tpm_types_common.specs.declared.action_check.ActionCheck.TheVariants as action
use Rattle.tpm_types_common.specs.declared.rc.ResponseCode.TheVariants as code
use Rattle.tpm_types_common.specs.declared.refused.Refused.{Refused}
use Rattle.tpm_commands.specs.declared.command_code.CommandCode.{CommandCode}
use Rattle.tpm_commands.specs.declared.command_code.CommandCode.TheVariants as command
use Rattle.tpm_types_object.specs.SensitiveCreate.{SensitiveValues}
use Rattle.tpm_types_object.specs.declared.public.Public.{Public}
use Rattle.tpm_record.specs.Hierarchy.{cleared_hierarchies}
use Rattle.tpm_record.specs.Record.{Record}
use Rattle.tpm_record.specs.Saved.{kind_of}
use Rattle.tpm_record.specs.declared.hierarchy.Hierarchies.{Hierarchies}
use Rattle.tpm_record.specs.rows.Answer.{Sized, nothing}
use Rattle.tpm_record.specs.rows.Refusals.{action_refusal, or_refusal}
use Rattle.tpm_record.specs.rows.Request.{Request, first_handle, second_handle}
use Rattle.tpm_record.specs.rows.Rows.{Success, all_read, only, unchanged_success}
use Rattle.tpm_actions_device.specs.StartAuthSession.{binding_of, parameters_in as session_parameters, parameters_pass, session_place, session_with, start_answer}
use Rattle.tpm_actions_device.specs.Startup.{start_draws, start_of, started_record}
use Rattle.tpm_actions_device.specs.declared.startup.Start.{Start}
use Rattle.tpm_actions_device.specs.declared.startup.Start.TheVariants.{Reset, Restart, Resume}
use Rattle.tpm_actions_object.specs.Checks.{given_passes, public_passes}
use Rattle.tpm_actions_object.specs.Creation.{parameters_in}
use Rattle.tpm_actions_object.specs.Loaded.{is_fixed, loaded_at, parent_passes}
use Rattle.tpm_step.specs.step.Table.{row_of}
use Rattle.tpm_journal.specs.draw_laws.Bytes.{ActsAlike, with_random}
use Rattle.tpm_journal.proofs.draw_laws.Alike.{alike_after}
use Rattle.tpm_journal.proofs.draw_laws.Fronts.{part, shorter}
use Rattle.tpm_actions_policy.specs.Assertions.{assertion_row}
use Rattle.tpm_actions_device.specs.ClearControl.{clear_control_row}
use Rattle.tpm_actions_device.specs.ClockRateAdjust.{clock_rate_adjust_row}
use Rattle.tpm_actions_device.specs.ClockSet.{clock_set_row}
use Rattle.tpm_actions_device.specs.Clear.{clear_row}
use Rattle.tpm_actions_object.specs.CreatePrimary.{create_primary_row}
use Rattle.tpm_actions_object.specs.Create.{create_row}
use Rattle.tpm_actions_device.specs.DictionaryAttackLockReset.{dictionary_attack_lock_reset_row}
use Rattle.tpm_actions_device.specs.DictionaryAttackParameters.{dictionary_attack_parameters_row}
use Rattle.tpm_actions_object.specs.EvictControl.{evict_control_row}
use Rattle.tpm_actions_device.specs.FlushContext.{flush_context_row}
use Rattle.tpm_actions_capability.specs.GetCapability.{get_capability_row}
use Rattle.tpm_actions_device.specs.GetRandom.{get_random_row}
use Rattle.tpm_actions_device.specs.GetTestResult.{get_test_result_row}
use Rattle.tpm_actions_device.specs.Hash.{hash_row}
use Rattle.tpm_actions_device.specs.HierarchyChangeAuth.{hierarchy_change_auth_row}
use Rattle.tpm_actions_device.specs.IncrementalSelfTest.{incremental_self_test_row}
use Rattle.tpm_actions_device.specs.TestParms.{test_parms_row}
use Rattle.tpm_actions_object.specs.Hmac.{hmac_row}
use Rattle.tpm_actions_object.specs.Load.{load_row}
use Rattle.tpm_nvactions.specs.NvChangeAuth.{nv_change_auth_row}
use Rattle.tpm_nvactions.specs.NvDefineSpace.{nv_define_space_row}
use Rattle.tpm_nvactions.specs.NvExtend.{nv_extend_row}
use Rattle.tpm_nvactions.specs.NvIncrement.{nv_increment_row}
use Rattle.tpm_nvactions.specs.NvReadLock.{nv_read_lock_row}
use Rattle.tpm_nvactions.specs.NvReadPublic.{nv_read_public_row}
use Rattle.tpm_nvactions.specs.NvRead.{nv_read_row}
use Rattle.tpm_nvactions.specs.NvSetBits.{nv_set_bits_row}
use Rattle.tpm_nvactions.specs.NvUndefineSpace.{nv_undefine_space_row}
use Rattle.tpm_nvactions.specs.NvWriteLock.{nv_write_lock_row}
use Rattle.tpm_nvactions.specs.NvWrite.{nv_write_row}
use Rattle.tpm_actions_device.specs.PcrEvent.{pcr_event_row}
use Rattle.tpm_actions_device.specs.PcrExtend.{pcr_extend_row}
use Rattle.tpm_actions_device.specs.PcrRead.{pcr_read_row}
use Rattle.tpm_actions_device.specs.PcrReset.{pcr_reset_row}
use Rattle.tpm_actions_policy.specs.PolicyGetDigest.{policy_get_digest_row}
use Rattle.tpm_actions_policy.specs.PolicyRestart.{policy_restart_row}
use Rattle.tpm_actions_device.specs.ReadClock.{read_clock_row}
use Rattle.tpm_actions_object.specs.ReadPublic.{read_public_row}
use Rattle.tpm_actions_device.specs.SelfTest.{self_test_row}
use Rattle.tpm_actions_device.specs.StirRandom.{stir_random_row}
use Rattle.tpm_actions_device.specs.Shutdown.{shutdown_row}
use Rattle.tpm_actions_device.specs.StartAuthSession.{start_auth_session_row}
use Rattle.tpm_actions_device.specs.Startup.{startup_row}
use Rattle.tpm_actions_object.specs.Unseal.{unseal_row}

-- a result that does not depend on random bytes stays the same if the random bytes are replaced
acts_same : (random other : List ℕ) (acts : Result Success Refused)
    → ActsAlike random other acts acts
acts_same random other (Ok s) = λ same. refl
acts_same random other (Err e) = refl

-- two results that are alike (`ActsAlike`) remain alike if the same step, which reads no random
-- bytes, runs before both
after : {A : Type 0} (random other : List ℕ) (x : Result A Refused)
    (f g : A → Result Success Refused)
    → ((a : A) → ActsAlike random other (f a) (g a)) → ActsAlike random other (x >>= f) (x >>= g)
after random other x f g alike = alike_after random other (λ s. s.answer.drawn) (λ s. s) x f g alike

module _ (r : Record) (q : Request) (other : List ℕ) where
  get_random_alike : ActsAlike q.random other (get_random_row r q)
      (get_random_row r (with_random q other))
  unfolding get_random_row
  get_random_alike =
      after q.random other (only (or_fault (number_at w16 q.parameters) (plain code.Insufficient)))
      _ _ (λ requested same.
      ap (λ bytes.
      Ok (unchanged_success r
      (record { handle = None; body = Sized bytes; drawn = min requested 32 }))) same)

  start_auth_session_alike : ActsAlike q.random other (start_auth_session_row r q)
      (start_auth_session_row r (with_random q other))
  unfolding start_auth_session_row
  start_auth_session_alike =
      after q.random other (second_handle q.handles) _ _ (λ bind.
      after q.random other (session_parameters q.parameters) _ _ (λ p.
      after q.random other (parameters_pass p) _ _ (λ passed.
      after q.random other (session_place r.sessions) _ _ (λ place same.
      ap (λ nonce. let s = session_with p (binding_of r bind) nonce in
      Ok (record {
        answer = start_answer p s place;
        after =
            record r { sessions = slice_set r.sessions place (Some s) };
      })) same))))

  -- replacing undrawn random bytes does not change the result of a startup; a TPM Reset draws a
  -- seed and a proof, of 32 bytes each
  started_alike : (start : Start) → ActsAlike q.random other
      (Ok (record {
        answer = record nothing { drawn = start_draws start };
        after =
            started_record start r q.random;
      }))
      (Ok (record {
        answer = record nothing { drawn = start_draws start };
        after =
            started_record start r other;
      }))
  started_alike Reset =
      λ same. rw (
        shorter 64 q.random other same 32 (omega arith),
        part 64 q.random other same 32 32 (omega arith),
      ) refl
  started_alike Restart = λ same. refl
  started_alike Resume = λ same. refl

  startup_alike : ActsAlike q.random other (startup_row r q) (startup_row r (with_random q other))
  unfolding startup_row
  startup_alike =
      after q.random other (only (startup_type_at q.parameters)) _ _ (λ type.
      after q.random other (start_of type (kind_of r.fixed.saved)) _ _ started_alike)

  -- the hierarchies after TPM2_Clear depend only on the first 96 random bytes: a seed and two
  -- proofs, of 32 bytes each
  cleared_alike : (h : Hierarchies) → take 96 other ≡ take 96 q.random
      → cleared_hierarchies h other ≡ cleared_hierarchies h q.random
  unfolding cleared_hierarchies
  cleared_alike h same =
      rw (
        part 96 q.random other same 0 32 (omega arith),
        part 96 q.random other same 32 32 (omega arith),
        part 96 q.random other same 64 32 (omega arith),
      ) refl

  clear_alike : ActsAlike q.random other (clear_row r q) (clear_row r (with_random q other))
  unfolding clear_row
  clear_alike =
      after q.random other (all_read q.parameters) _ _ (λ ended.
      after q.random other
      (refused_if r.fixed.disable_clear (action_refusal action.First (plain code.Disabled))) _ _
      (λ a1.
      after q.random other
      (or_refusal (λ fault. action_refusal action.Second (plain code.Failure))
      (clear_counted r.fixed.banks)) _ _ (λ banks same.
      rw (cleared_alike r.fixed.hierarchies same) refl)))

  -- the areas of the object that TPM2_Create makes depend only on the random bytes for the object's
  -- key and its seedValue
  created_alike : (template : Public) (given : SensitiveValues)
      → take (drawn_by template given) other ≡ take (drawn_by template given) q.random
      → created_areas template given other ≡ created_areas template given q.random
  unfolding created_areas
  created_alike template given same =
      rw (
        shorter (drawn_by template given) q.random other same (generated_size template given)
            (omega arith),
        part (drawn_by template given) q.random other same (generated_size template given)
            (digest_size template.name_alg) (omega arith),
      ) refl

  create_alike : ActsAlike q.random other (create_row r q) (create_row r (with_random q other))
  unfolding create_row
  create_alike =
      after q.random other (first_handle q.handles) _ _ (λ handle.
      after q.random other (loaded_at r handle) _ _ (λ parent.
      after q.random other (parameters_in q.parameters) _ _ (λ p.
      after q.random other (parent_passes parent) _ _ (λ a1.
      after q.random other (public_passes 1 (is_fixed parent) p.template) _ _ (λ t.
      after q.random other (given_passes 4 p.given p.template) _ _ (λ c same.
      let object = drawn_by p.template p.given in
      rw (
        created_alike p.template p.given
            (shorter (object + 16) q.random other same object (omega arith)),
        part (object + 16) q.random other same object 16 (omega arith),
      ) refl))))))

-- replacing undrawn random bytes does not change the result of a row
pub row_alike : (r : Record) (c : CommandCode) (q : Request) (other : List ℕ)
    → ActsAlike q.random other (row_of r c q) (row_of r c (with_random q other))
unfolding row_of assertion_row clear_control_row clock_rate_adjust_row clock_set_row
    create_primary_row dictionary_attack_lock_reset_row dictionary_attack_parameters_row
    evict_control_row flush_context_row get_capability_row get_test_result_row hash_row
    hierarchy_change_auth_row hmac_row incremental_self_test_row load_row nv_change_auth_row nv_define_space_row
    nv_extend_row nv_increment_row nv_read_lock_row nv_read_public_row nv_read_row nv_set_bits_row
    nv_undefine_space_row nv_write_lock_row nv_write_row pcr_event_row pcr_extend_row pcr_read_row
    pcr_reset_row policy_get_digest_row policy_restart_row read_clock_row read_public_row
    self_test_row shutdown_row stir_random_row test_parms_row unseal_row
row_alike r command.GetRandom q other = get_random_alike r q other
row_alike r command.StartAuthSession q other = start_auth_session_alike r q other
row_alike r command.Startup q other = startup_alike r q other
row_alike r command.Clear q other = clear_alike r q other
row_alike r command.Create q other = create_alike r q other
row_alike r c q other = acts_same q.random other (row_of r c q)

-- Proves the example of a run with failed tries by computing each step.
use Rattle.std.proofs.Common.{arith, ◌≡◌, ◌≢◌, ◌<◌, ◌^◌, ℕ, false, [], ◌∷◌, length, refl, sym, ap, subst}
use Rattle.std.proofs.lemmas.Bool.{false≢true}
use Rattle.tpm_lockout.specs.Recovery.{opened_after}
use Rattle.tpm_lockout.specs.Tries.{after_failure, forgiven_after}
use Rattle.tpm_record.specs.Entity.{auth_value_of, entity_at, is_available, is_present, protection_of}
use Rattle.tpm_record.specs.Hierarchy.{IsHierarchies, manufactured_hierarchies}
use Rattle.tpm_nv.specs.IsContents.{IsIndex}
use Rattle.tpm_record.specs.IsRecord.{IsRecord}
use Rattle.tpm_record.specs.Record.{Record}
use Rattle.tpm_record.specs.Tick.{after_tick}
use Rattle.tpm_types_common.specs.AuthValue.{IsAuthValue, trimmed}
use Rattle.tpm_types_common.specs.Check.{check_number}
use Rattle.tpm_types_common.specs.Limits.{object_limit, session_limit}
use Rattle.tpm_types_common.specs.declared.check.Check.TheVariants as check
use Rattle.tpm_types_common.specs.Rc.{code_number, plain}
use Rattle.tpm_types_common.specs.Refused.{refusal}
use Rattle.tpm_types_common.specs.declared.rc.ResponseCode.TheVariants as code
use Rattle.tpm_types_common.specs.declared.refused.Refused.{Refused}
use Rattle.tpm_session.specs.declared.session.Protection.TheVariants as protection
use Rattle.tpm_auth.specs.Comparison.{failure}
use Rattle.tpm_types_command.specs.AuthArea.{area_at}
use Rattle.tpm_types_command.specs.AuthEntry.{entry_at}
use Rattle.tpm_commands.specs.CommandCode.{code_named, code_number as code_number_of, shape_of}
use Rattle.tpm_commands.specs.declared.command_code.CommandCode.TheVariants as command
use Rattle.tpm_commands.specs.HandleArea.{allowed_handle_at}
use Rattle.tpm_types_command.specs.Header.{header_at}
use Rattle.tpm_auth.specs.Entries.{entry_passes}
use Rattle.tpm_auth.specs.Grant.{authorize, grant, password_grant}
use Rattle.tpm_step.specs.step.General.{body_of, general, present_handle_at, sessions_pass}
use Rattle.tpm_step.specs.step.Answer.{refusal_text}
use Rattle.tpm_step.specs.step.Safe.{IsHarmless}
use Rattle.tpm_step.specs.step.Execution.{Executes}
use Rattle.tpm_step.specs.step.Step.{Stepped, acceptance, acceptance_in, counted_in, step}
use Rattle.tpm_step.specs.history.Executions.{Leads}
use Rattle.tpm_step.proofs.step.PowerCycles.{none_taken, starting_banks}
use Rattle.tpm_step.specs.history.FailedRun.{IsFailedRun, failed_run, protected_index, tried_device, wrong_after, zeros}

-- ---- each record of the run satisfies the invariant of all records

no_value : IsAuthValue []
unfolding trimmed
no_value = (omega arith, refl)

a_value : IsAuthValue (0x61 ∷ [])
unfolding trimmed
a_value = (omega arith, refl)

hierarchies : IsHierarchies (manufactured_hierarchies zeros)
unfolding manufactured_hierarchies
hierarchies = record {
  owner = record { auth_value = no_value; secrets = record { seed = refl; proof = refl } };
  endorsement = record { auth_value = no_value; secrets = record { seed = refl; proof = refl } };
  platform = record { auth_value = no_value; secrets = record { seed = refl; proof = refl } };
  null = record { seed = refl; proof = refl };
  lockout_auth = no_value;
}

index : IsIndex 0x01000001 protected_index
index = record {
  named = refl;
  public = record {
    nv_index = record { fits = omega arith; named = refl };
    attributes =
        record { fits = omega arith; named = refl };
    auth_policy = omega arith;
    data_size =
        omega arith;
  };
  sized = refl;
  auth_value = a_value;
  data_size = refl;
}

is_tried : (failed forgiving time : ℕ) → failed < 2 ^ 32 → forgiving < 1000000 → time < 2 ^ 64
    → IsRecord (tried_device failed forgiving time)
is_tried failed forgiving time few short soon = record {
  saved = tt;
  hierarchies = hierarchies;
  lockout = record {
    failed_tries = few;
    max_tries = omega arith;
    recovery_time = omega arith;
    lockout_recovery = omega arith;
    forgiving_time = omega (arith, short);
    closed_time = omega arith;
  };
  banks = starting_banks;
  sessions = refl;
  each_session = none_taken _ session_limit;
  objects = refl;
  each_object = none_taken _ object_limit;
  persistent = record { ascends = tt; few = omega arith; each = tt };
  nv = record {
    ascends = (tt, tt);
    few = omega arith;
    small = omega arith;
    indices =
        (index, tt);
    max_count = omega arith;
  };
  time = soon;
  clock = soon;
  reset_count = omega arith;
  restart_count = omega arith;
}

-- ---- each step of the run, with its whole response

-- the step of a TPM2_NV_Read with a wrong password, given its refusal and the record after it
abbrev refused_with : Refused → Record → Stepped
refused_with e after =
    record {
      response = refusal_text e;
      row =
          record { code = code_number_of command.NvRead; check = 9 };
      after = after;
    }

abbrev failed : Refused
failed = failure check.Authorization 1 protection.Tries

abbrev locked : Refused
locked = refusal check.Authorization (plain code.Lockout)

first_step : step (tried_device 0 0 0) (wrong_after 0) ≡ refused_with failed (tried_device 1 0 0)
unfolding code_number general body_of sessions_pass present_handle_at acceptance_in acceptance
    entry_passes authorize grant password_grant trimmed area_at entry_at allowed_handle_at header_at
    code_named shape_of opened_after after_failure forgiven_after auth_value_of entity_at
    is_available is_present protection_of
first_step = refl

second_step : step (tried_device 1 0 0) (wrong_after 0) ≡ refused_with failed (tried_device 2 0 0)
unfolding code_number general body_of sessions_pass present_handle_at acceptance_in acceptance
    entry_passes authorize grant password_grant trimmed area_at entry_at allowed_handle_at header_at
    code_named shape_of opened_after after_failure forgiven_after auth_value_of entity_at
    is_available is_present protection_of
second_step = refl

third_step : step (tried_device 2 0 0) (wrong_after 0) ≡ refused_with failed (tried_device 3 0 0)
unfolding code_number general body_of sessions_pass present_handle_at acceptance_in acceptance
    entry_passes authorize grant password_grant trimmed area_at entry_at allowed_handle_at header_at
    code_named shape_of opened_after after_failure forgiven_after auth_value_of entity_at
    is_available is_present protection_of
third_step = refl

fourth_step : step (tried_device 3 0 0) (wrong_after 999999)
    ≡ refused_with locked (tried_device 3 999999 999999)
unfolding code_number general body_of sessions_pass present_handle_at acceptance_in acceptance
    entry_passes authorize grant password_grant trimmed area_at entry_at allowed_handle_at header_at
    code_named shape_of opened_after after_failure forgiven_after auth_value_of entity_at
    is_available is_present protection_of
fourth_step = refl

fifth_step : step (tried_device 3 999999 999999) (wrong_after 1)
    ≡ refused_with failed (tried_device 3 0 1000000)
unfolding code_number general body_of sessions_pass present_handle_at acceptance_in acceptance
    entry_passes authorize grant password_grant trimmed area_at entry_at allowed_handle_at header_at
    code_named shape_of opened_after after_failure forgiven_after auth_value_of entity_at
    is_available is_present protection_of
fifth_step = refl

-- ---- each step of the run is an execution

harmless_so : (r : Record) (elapsed : ℕ) (e : Refused) (after : Record)
    → after ≡ counted_in e.counted (after_tick r elapsed) → check_number e.check ≡ 9
    → length (refusal_text e) ≡ 10 → IsHarmless r (wrong_after elapsed) (refused_with e after)
harmless_so r elapsed e after is nine ten = λ refused. (ten, e, refl, sym nine, is)

executes_so : (r : Record) (elapsed : ℕ) (e : Refused) (after : Record) → elapsed < 2 ^ 32
    → IsRecord after → step r (wrong_after elapsed) ≡ refused_with e after
    → after ≡ counted_in e.counted (after_tick r elapsed) → check_number e.check ≡ 9
    → length (refusal_text e) ≡ 10
    → Executes false r (wrong_after elapsed) (step r (wrong_after elapsed))
executes_so r elapsed e after below sound is counts nine ten =
    subst (Executes false r (wrong_after elapsed)) (sym is) (record {
      happens = (omega arith, below, refl);
      steps = (false, (λ none. absurd (false≢true none)), sym is);
      exactly = λ never. sym is;
      is_record = sound;
      harmless = harmless_so r elapsed e after counts nine ten;
      modest = λ accepted. absurd (nine_not accepted);
      fits = omega (arith, ten);
    })
  where
    nine_not : (let nine : ℕ = 9 in nine ≡ 0) → ⊥
    nine_not none = omega (arith, none)

first_executes : Executes false (tried_device 0 0 0) (wrong_after 0)
    (step (tried_device 0 0 0) (wrong_after 0))
unfolding code_number general body_of sessions_pass present_handle_at acceptance_in acceptance
    entry_passes authorize grant password_grant trimmed area_at entry_at allowed_handle_at header_at
    code_named shape_of opened_after after_failure forgiven_after auth_value_of entity_at
    is_available is_present protection_of
first_executes = executes_so (tried_device 0 0 0) 0 failed (tried_device 1 0 0) (omega arith)
    (is_tried 1 0 0 (omega arith) (omega arith) (omega arith)) first_step refl refl refl

second_executes : Executes false (tried_device 1 0 0) (wrong_after 0)
    (step (tried_device 1 0 0) (wrong_after 0))
unfolding code_number general body_of sessions_pass present_handle_at acceptance_in acceptance
    entry_passes authorize grant password_grant trimmed area_at entry_at allowed_handle_at header_at
    code_named shape_of opened_after after_failure forgiven_after auth_value_of entity_at
    is_available is_present protection_of
second_executes = executes_so (tried_device 1 0 0) 0 failed (tried_device 2 0 0) (omega arith)
    (is_tried 2 0 0 (omega arith) (omega arith) (omega arith)) second_step refl refl refl

third_executes : Executes false (tried_device 2 0 0) (wrong_after 0)
    (step (tried_device 2 0 0) (wrong_after 0))
unfolding code_number general body_of sessions_pass present_handle_at acceptance_in acceptance
    entry_passes authorize grant password_grant trimmed area_at entry_at allowed_handle_at header_at
    code_named shape_of opened_after after_failure forgiven_after auth_value_of entity_at
    is_available is_present protection_of
third_executes = executes_so (tried_device 2 0 0) 0 failed (tried_device 3 0 0) (omega arith)
    (is_tried 3 0 0 (omega arith) (omega arith) (omega arith)) third_step refl refl refl

fourth_executes : Executes false (tried_device 3 0 0) (wrong_after 999999)
    (step (tried_device 3 0 0) (wrong_after 999999))
unfolding code_number general body_of sessions_pass present_handle_at acceptance_in acceptance
    entry_passes authorize grant password_grant trimmed area_at entry_at allowed_handle_at header_at
    code_named shape_of opened_after after_failure forgiven_after auth_value_of entity_at
    is_available is_present protection_of
fourth_executes = executes_so (tried_device 3 0 0) 999999 locked (tried_device 3 999999 999999)
    (omega arith) (is_tried 3 999999 999999 (omega arith) (omega arith) (omega arith)) fourth_step
    refl refl refl

fifth_executes : Executes false (tried_device 3 999999 999999) (wrong_after 1)
    (step (tried_device 3 999999 999999) (wrong_after 1))
unfolding code_number general body_of sessions_pass present_handle_at acceptance_in acceptance
    entry_passes authorize grant password_grant trimmed area_at entry_at allowed_handle_at header_at
    code_named shape_of opened_after after_failure forgiven_after auth_value_of entity_at
    is_available is_present protection_of
fifth_executes = executes_so (tried_device 3 999999 999999) 1 failed (tried_device 3 0 1000000)
    (omega arith) (is_tried 3 0 1000000 (omega arith) (omega arith) (omega arith)) fifth_step
    refl refl refl

left : (r after : Record) (elapsed : ℕ) (e : Refused)
    → step r (wrong_after elapsed) ≡ refused_with e after
    → after ≡ (step r (wrong_after elapsed)).after
left r after elapsed e is = sym (ap (λ (x : Stepped). x.after) is)

abbrev then_executes : (r s : Record) (elapsed : ℕ) → r ≡ s
    → Executes false r (wrong_after elapsed) (step r (wrong_after elapsed))
    → Executes false s (wrong_after elapsed) (step r (wrong_after elapsed))
then_executes r s elapsed same executes =
    subst (λ (old : Record). Executes false old (wrong_after elapsed)
    (step r (wrong_after elapsed))) same executes

leads_so : Leads false (tried_device 0 0 0) failed_run (tried_device 3 0 1000000)
leads_so =
    let first = left (tried_device 0 0 0) (tried_device 1 0 0) 0 failed first_step in
    let second = left (tried_device 1 0 0) (tried_device 2 0 0) 0 failed second_step in
    let third = left (tried_device 2 0 0) (tried_device 3 0 0) 0 failed third_step in
    let fourth = left (tried_device 3 0 0) (tried_device 3 999999 999999) 999999 locked
    fourth_step in
    let fifth = left (tried_device 3 999999 999999) (tried_device 3 0 1000000) 1 failed
    fifth_step in (
      refl,
      first_executes,
      (
        first,
        then_executes (tried_device 1 0 0) _ 0 first second_executes,
        (
          second,
          then_executes (tried_device 2 0 0) _ 0 second third_executes,
          (
            third,
            then_executes (tried_device 3 0 0) _ 999999 third fourth_executes,
            (
              fourth,
              then_executes (tried_device 3 999999 999999) _ 1 fourth fifth_executes,
              fifth,
            ),
          ),
        ),
      ),
    )

pub failed_run_is : IsFailedRun
unfolding code_number general body_of sessions_pass present_handle_at acceptance_in acceptance
    entry_passes authorize grant password_grant trimmed area_at entry_at allowed_handle_at header_at
    code_named shape_of opened_after after_failure forgiven_after auth_value_of entity_at
    is_available is_present protection_of
failed_run_is = record {
  leads = leads_so;
  quiet = tt;
  counts =
      λ none. omega (arith, none);
  failures = refl;
  within = refl;
}

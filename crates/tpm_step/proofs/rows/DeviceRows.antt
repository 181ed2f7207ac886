-- The rows of the commands for the device itself, PCRs, hierarchies and sessions satisfy the laws
-- about rows.
use Rattle.std.specs.Option.{option_map_or}
use Rattle.std.specs.Prelude.{min, not}
use Rattle.std.proofs.Common.{◌+◌, ◌≡◌, ◌≤◌, Bool, List, None, Ok, Option, Some, arith, false, inl}
use Rattle.std.proofs.Common.{inr, length, refl, rules, slice_set, sym, take, true, ℕ}
use Rattle.std.proofs.lemmas.Bool.{false≢true}
use Rattle.tpm_bytes.specs.Reading.{refused_if}
use Rattle.tpm_bytes.proofs.Fields.{bind_ok, passed}
use Rattle.tpm_types_common.specs.Rc.{plain}
use Rattle.tpm_types_common.specs.StartupType.{startup_type_at}
use Rattle.tpm_types_common.specs.declared.action_check.ActionCheck.TheVariants as action
use Rattle.tpm_types_common.specs.declared.handle.Handle.{Handle}
use Rattle.tpm_types_common.specs.declared.handle.HierarchyAuth.{HierarchyAuth}
use Rattle.tpm_types_common.specs.declared.handle.HierarchyAuth.TheVariants as auth
use Rattle.tpm_types_common.specs.declared.handle.HierarchyHandle.TheVariants as hierarchy
use Rattle.tpm_types_common.specs.declared.rc.ResponseCode.TheVariants as code
use Rattle.tpm_types_common.specs.declared.startup_type.StartupType.{StartupType}
use Rattle.tpm_commands.specs.CommandCode.{shape_of}
use Rattle.tpm_commands.specs.declared.command_code.CommandCode.TheVariants as command
use Rattle.tpm_containers.proofs.NumberedLaws.{put_taken, removed_taken}
use Rattle.tpm_object.specs.Object.{transient_byte}
use Rattle.tpm_session.specs.Key.{is_nonce_size}
use Rattle.tpm_session.specs.Sessions.{session_byte, slots_without_session}
use Rattle.tpm_session.specs.declared.session.Binding.{Binding}
use Rattle.tpm_session.specs.declared.session.Session.{Session}
use Rattle.tpm_record.specs.Entity.{with_hierarchy_auth}
use Rattle.tpm_record.specs.Objects.{without_object}
use Rattle.tpm_record.specs.Record.{Record}
use Rattle.tpm_record.specs.Saved.{kind_of}
use Rattle.tpm_record.specs.declared.hierarchy.Hierarchies.{Hierarchies}
use Rattle.tpm_record.specs.declared.saved.SavedKind.{SavedKind}
use Rattle.tpm_record.specs.rows.Answer.{nothing}
use Rattle.tpm_record.specs.rows.Refusals.{parameter_refusal}
use Rattle.tpm_record.specs.rows.Request.{Request, second_handle}
use Rattle.tpm_record.specs.rows.Rows.{only}
use Rattle.tpm_actions_device.specs.ClearControl.{clear_control_row}
use Rattle.tpm_actions_device.specs.ClockRateAdjust.{clock_rate_adjust_row}
use Rattle.tpm_actions_device.specs.ClockSet.{clock_set_row}
use Rattle.tpm_actions_device.specs.DictionaryAttackLockReset.{dictionary_attack_lock_reset_row}
use Rattle.tpm_actions_device.specs.DictionaryAttackParameters.{dictionary_attack_parameters_row}
use Rattle.tpm_actions_device.specs.DictionaryAttackParameters.{lockout_parameters}
use Rattle.tpm_actions_device.specs.FlushContext.{flush_context_row, flushed_from}
use Rattle.tpm_actions_device.specs.GetRandom.{get_random_row}
use Rattle.tpm_actions_device.specs.GetTestResult.{get_test_result_row}
use Rattle.tpm_actions_device.specs.Hash.{hash_parameters_in, hash_row}
use Rattle.tpm_actions_device.specs.HierarchyChangeAuth.{hierarchy_change_auth_row}
use Rattle.tpm_actions_device.specs.IncrementalSelfTest.{incremental_self_test_row}
use Rattle.tpm_actions_device.specs.TestParms.{test_parms_row}
use Rattle.tpm_actions_device.specs.PcrEvent.{pcr_event_row}
use Rattle.tpm_actions_device.specs.PcrExtend.{pcr_extend_row}
use Rattle.tpm_actions_device.specs.PcrRead.{pcr_read_row}
use Rattle.tpm_actions_device.specs.PcrReset.{pcr_reset_row}
use Rattle.tpm_actions_device.specs.ReadClock.{read_clock_row}
use Rattle.tpm_actions_device.specs.SelfTest.{self_test_row}
use Rattle.tpm_actions_device.specs.Shutdown.{shutdown_row}
use Rattle.tpm_actions_device.specs.StartAuthSession.{Parameters, parameters_in, parameters_pass}
use Rattle.tpm_actions_device.specs.StartAuthSession.{session_place, session_with}
use Rattle.tpm_actions_device.specs.StartAuthSession.{start_auth_session_row}
use Rattle.tpm_actions_device.specs.StirRandom.{stir_random_row}
use Rattle.tpm_actions_device.specs.Startup.{start_draws, start_of, started_record, startup_row}
use Rattle.tpm_actions_device.specs.declared.startup.Start.{Start}
use Rattle.tpm_actions_device.specs.declared.startup.Start.TheVariants.{Reset, Restart, Resume}
use Rattle.tpm_step.specs.rows.Draws.{bytes_requested}
use Rattle.tpm_step.specs.rows.Footprint.{KeepsSecrets, Touches}
use Rattle.tpm_commands.specs.Part.{Beginning, SessionsAndObjects}
use Rattle.tpm_step.specs.rows.Order.{Late, Plain}
use Rattle.tpm_step.specs.rows.RowLaws.{RowLaws, SuccessLaws}
use Rattle.tpm_step.specs.rows.Shapes.{Grows, taken_in}
use Rattle.tpm_step.specs.rows.Sizes.{AreSized, IsSized}
use Rattle.tpm_step.proofs.rows.AllPlaces.{all_set}
use Rattle.tpm_step.proofs.rows.Binding.{asked, ok_bind, ok_bind_is, ok_then, some_is}
use Rattle.tpm_step.proofs.rows.Order.{ordered_steps}
use Rattle.tpm_step.proofs.rows.PlainSteps.{plain_steps}
use Rattle.tpm_step.proofs.rows.SessionPlaces.{flushed_all, stays_put}
use Rattle.tpm_policy.proofs.Sizes.{starting_sized}
use Rattle.tpm_step.proofs.rows.SizedParts.{key_sized, nonce_few, nonce_taken}
use Rattle.tpm_step.proofs.rows.Successes.{drawn_as_read, in_place, in_place_steps, none_drawn}
use Rattle.std.proofs.Common.{Err, IfOk, Result}
use Rattle.std.proofs.Common.{ap}
use Rattle.tpm_bytes.specs.Reading.{◌>>=◌}
use Rattle.tpm_types_common.specs.Refused.{refusal}
use Rattle.tpm_types_common.specs.declared.refused.Refused.{Refused}
use Rattle.tpm_pcr.specs.Changes.{change_check, clear_counted}
use Rattle.tpm_pcr.specs.Values.{BankValues}
use Rattle.tpm_pcr.specs.declared.changes.ChangeFault.{ChangeFault}
use Rattle.tpm_nv.specs.Clear.{contents_after_clear}
use Rattle.tpm_record.specs.Clear.{cleared_objects, cleared_persistent}
use Rattle.tpm_record.specs.Hierarchy.{cleared_hierarchies}
use Rattle.tpm_record.specs.rows.Refusals.{action_refusal, or_refusal}
use Rattle.tpm_record.specs.rows.Rows.{all_read}
use Rattle.tpm_actions_device.specs.Clear.{clear_row, cleared_fixed}
use Rattle.tpm_row_secrecy.proofs.DeviceRows as device_secrets
use Rattle.tpm_row_secrecy.proofs.SessionRows as session_secrets

-- ---- TPM2_Startup and TPM2_Shutdown

-- a startup changes the record only as `Touches Beginning` allows
start_touches : (r : Record) (start : Start) (random : List ℕ)
    → Touches Beginning r (started_record start r random)
unfolding with_hierarchy_auth
start_touches r Reset random = (search rules, inr refl)
start_touches r Restart random = (refl, inr refl)
start_touches r Resume random = (refl, inl refl)

secrets_few : (start : Start) → start_draws start ≤ 96
secrets_few Reset = omega arith
secrets_few Restart = omega arith
secrets_few Resume = omega arith

late_start : (Fit : Type 0) (type : StartupType) (kind : SavedKind) → Late Fit (start_of type kind)
late_start Fit type kind = grind arith

plain_start : (type : StartupType) (kind : SavedKind) → Plain (start_of type kind)
plain_start type kind = grind arith

pub startup_laws : RowLaws command.Startup startup_row
unfolding startup_row shape_of
startup_laws = record {
  success = λ r q.
      ok_bind _ (only (startup_type_at q.parameters)) _ (λ type.
      ok_bind _ (start_of type (kind_of r.fixed.saved)) _ (λ start.
      in_place command.Startup r q _ refl refl (λ old new grows. grows)
      (start_touches r start q.random) (start_touches r start q.random).1 (refl, refl)
      (secrets_few start, λ apart. absurd cc)));
  order = λ r q. search (ordered_steps, late_start) depth 16;
  plain = λ r q. search (plain_steps, plain_start) depth 16;
  tells = λ s covers r q free. device_secrets.startup_tells s r q;
}

pub shutdown_laws : RowLaws command.Shutdown shutdown_row
unfolding shutdown_row shape_of
shutdown_laws = record {
  success = λ r q. search in_place_steps depth 12;
  order = λ r q. search ordered_steps depth 16;
  plain = λ r q. search plain_steps depth 16;
  tells = λ s covers r q free. device_secrets.shutdown_tells s r q;
}

pub self_test_laws : RowLaws command.SelfTest self_test_row
unfolding self_test_row shape_of
self_test_laws = record {
  success = λ r q. search in_place_steps depth 12;
  order = λ r q. search ordered_steps depth 16;
  plain = λ r q. search plain_steps depth 16;
  tells = λ s covers r q free. device_secrets.self_test_tells s r q;
}

pub incremental_self_test_laws : RowLaws command.IncrementalSelfTest incremental_self_test_row
unfolding incremental_self_test_row shape_of
incremental_self_test_laws = record {
  success = λ r q. search in_place_steps depth 12;
  order = λ r q. search ordered_steps depth 16;
  plain = λ r q. search plain_steps depth 16;
  tells = λ s covers r q free. device_secrets.incremental_self_test_tells s r q;
}

pub test_parms_laws : RowLaws command.TestParms test_parms_row
unfolding test_parms_row shape_of
test_parms_laws = record {
  success = λ r q. search in_place_steps depth 12;
  order = λ r q. search ordered_steps depth 16;
  plain = λ r q. search plain_steps depth 16;
  tells = λ s covers r q free. device_secrets.test_parms_tells s r q;
}

pub get_test_result_laws : RowLaws command.GetTestResult get_test_result_row
unfolding get_test_result_row shape_of
get_test_result_laws = record {
  success = λ r q. search in_place_steps depth 12;
  order = λ r q. search ordered_steps depth 16;
  plain = λ r q. search plain_steps depth 16;
  tells = λ s covers r q free. device_secrets.get_test_result_tells s r q;
}

pub hash_laws : RowLaws command.Hash hash_row
unfolding hash_row hash_parameters_in shape_of
hash_laws = record {
  success = λ r q. search in_place_steps depth 12;
  order = λ r q. search ordered_steps depth 16;
  plain = λ r q. search plain_steps depth 16;
  tells = λ s covers r q free. device_secrets.hash_tells s r q;
}

-- ---- clocks and random bytes

pub stir_random_laws : RowLaws command.StirRandom stir_random_row
unfolding stir_random_row shape_of
stir_random_laws = record {
  success = λ r q. search in_place_steps depth 12;
  order = λ r q. search ordered_steps depth 16;
  plain = λ r q. search plain_steps depth 16;
  tells = λ s covers r q free. device_secrets.stir_random_tells s r q;
}

pub read_clock_laws : RowLaws command.ReadClock read_clock_row
unfolding read_clock_row shape_of
read_clock_laws = record {
  success = λ r q. search in_place_steps depth 12;
  order = λ r q. search ordered_steps depth 16;
  plain = λ r q. search plain_steps depth 16;
  tells = λ s covers r q free. device_secrets.read_clock_tells s r q;
}

random_few : (requested : ℕ) → min requested 32 ≤ 96
random_few requested = omega arith

pub get_random_laws : RowLaws command.GetRandom get_random_row
unfolding get_random_row shape_of
get_random_laws = record {
  success = λ r q.
      ok_bind_is _ (bytes_requested q.parameters) _ (λ requested is.
      in_place command.GetRandom r q _ refl refl (λ old new grows. grows) refl refl (refl, refl) (
        random_few requested,
        λ apart. drawn_as_read (λ n. min n 32) (bytes_requested q.parameters)
            requested is,
      ));
  order = λ r q. search ordered_steps depth 16;
  plain = λ r q. search plain_steps depth 16;
  tells = λ s covers r q free. device_secrets.get_random_tells s r q;
}

-- ---- PCRs

pub pcr_read_laws : RowLaws command.PcrRead pcr_read_row
unfolding pcr_read_row shape_of
pcr_read_laws = record {
  success = λ r q. search in_place_steps depth 12;
  order = λ r q. search ordered_steps depth 16;
  plain = λ r q. search plain_steps depth 16;
  tells = λ s covers r q free. device_secrets.pcr_read_tells s r q;
}

pub pcr_extend_laws : RowLaws command.PcrExtend pcr_extend_row
unfolding pcr_extend_row shape_of
pcr_extend_laws = record {
  success = λ r q. search in_place_steps depth 12;
  order = λ r q. search ordered_steps depth 16;
  plain = λ r q. search plain_steps depth 16;
  tells = λ s covers r q free. device_secrets.pcr_extend_tells s r q;
}

pub pcr_event_laws : RowLaws command.PcrEvent pcr_event_row
unfolding pcr_event_row shape_of
pcr_event_laws = record {
  success = λ r q. search in_place_steps depth 12;
  order = λ r q. search ordered_steps depth 16;
  plain = λ r q. search plain_steps depth 16;
  tells = λ s covers r q free. device_secrets.pcr_event_tells s r q;
}

pub pcr_reset_laws : RowLaws command.PcrReset pcr_reset_row
unfolding pcr_reset_row shape_of
pcr_reset_laws = record {
  success = λ r q. search in_place_steps depth 12;
  order = λ r q. search ordered_steps depth 16;
  plain = λ r q. search plain_steps depth 16;
  tells = λ s covers r q free. device_secrets.pcr_reset_tells s r q;
}

-- ---- hierarchies, and protection against dictionary attacks

pub clear_control_laws : RowLaws command.ClearControl clear_control_row
unfolding clear_control_row shape_of
clear_control_laws = record {
  success = λ r q. search in_place_steps depth 12;
  order = λ r q. search ordered_steps depth 16;
  plain = λ r q. search plain_steps depth 16;
  tells = λ s covers r q free. device_secrets.clear_control_tells s r q;
}

pub clock_set_laws : RowLaws command.ClockSet clock_set_row
unfolding clock_set_row shape_of
clock_set_laws = record {
  success = λ r q. search in_place_steps depth 12;
  order = λ r q. search ordered_steps depth 16;
  plain = λ r q. search plain_steps depth 16;
  tells = λ s covers r q free. device_secrets.clock_set_tells s r q;
}

pub clock_rate_adjust_laws : RowLaws command.ClockRateAdjust clock_rate_adjust_row
unfolding clock_rate_adjust_row shape_of
clock_rate_adjust_laws = record {
  success = λ r q. search in_place_steps depth 12;
  order = λ r q. search ordered_steps depth 16;
  plain = λ r q. search plain_steps depth 16;
  tells = λ s covers r q free. device_secrets.clock_rate_adjust_tells s r q;
}

-- a new authorization value changes no seed and no proof
with_auth_keeps : (h : Hierarchies) (auth : HierarchyAuth) (value : List ℕ)
    → KeepsSecrets h (with_hierarchy_auth h auth value)
unfolding with_hierarchy_auth
with_auth_keeps h auth.Owner value hierarchy.Owner = refl
with_auth_keeps h _ value _ = refl

auth_keeps : (h : Hierarchies) (auth : Option HierarchyAuth) (value : List ℕ)
    → KeepsSecrets h (option_map_or (λ auth. with_hierarchy_auth h auth value) auth h)
auth_keeps h (Some auth) value = with_auth_keeps h auth value
auth_keeps h None value = λ which. refl

pub hierarchy_change_auth_laws : RowLaws command.HierarchyChangeAuth hierarchy_change_auth_row
unfolding hierarchy_change_auth_row shape_of
hierarchy_change_auth_laws = record {
  success = λ r q. search (in_place_steps, auth_keeps) depth 12;
  order = λ r q. search ordered_steps depth 16;
  plain = λ r q. search plain_steps depth 16;
  tells = λ s covers r q free. device_secrets.hierarchy_change_auth_tells s r q;
}

pub dictionary_attack_lock_reset_laws : RowLaws command.DictionaryAttackLockReset
    dictionary_attack_lock_reset_row
unfolding dictionary_attack_lock_reset_row shape_of
dictionary_attack_lock_reset_laws = record {
  success = λ r q. search in_place_steps depth 12;
  order = λ r q. search ordered_steps depth 16;
  plain = λ r q. search plain_steps depth 16;
  tells = λ s covers r q free. device_secrets.dictionary_attack_lock_reset_tells s r q;
}

pub dictionary_attack_parameters_laws : RowLaws command.DictionaryAttackParameters
    dictionary_attack_parameters_row
unfolding dictionary_attack_parameters_row shape_of lockout_parameters
dictionary_attack_parameters_laws = record {
  success = λ r q. search in_place_steps depth 12;
  order = λ r q. search ordered_steps depth 16;
  plain = λ r q. search plain_steps depth 16;
  tells = λ s covers r q free. device_secrets.dictionary_attack_parameters_tells s r q;
}

-- ---- starting a session

more_sessions : (r : Record) (place : ℕ) (s : Session) → session_place r.sessions ≡ Ok place
    → taken_in (record r { sessions = slice_set r.sessions place (Some s) }) ≡ taken_in r + 1
more_sessions r place s is = let more =
    put_taken session_byte r.sessions place s (some_is _ _ place is) in omega (arith, more)

caller_sized : (p : Parameters) (x : Unit {0}) → parameters_pass p ≡ Ok x
    → is_nonce_size p.hash (length p.nonce_caller) ≡ true
unfolding parameters_pass
caller_sized p x is =
    let a1 =
    bind_ok (refused_if (not (is_nonce_size p.hash (length p.nonce_caller)))
    (parameter_refusal action.First 1 code.Size)) _ x is in
    asked (is_nonce_size p.hash (length p.nonce_caller)) _ a1.0 a1.1

started_sized : (p : Parameters) (binding : Option Binding) (random : List ℕ) → 32 ≤ length random
    → is_nonce_size p.hash (length p.nonce_caller) ≡ true
    → IsSized (session_with p binding (take (length p.nonce_caller) random))
started_sized p binding random enough is = record {
  digest = starting_sized p.hash;
  key = key_sized p.hash binding (take (length p.nonce_caller) random) p.nonce_caller;
  nonce_tpm = nonce_taken p.hash (length p.nonce_caller) random is enough;
}

pub start_auth_session_laws : RowLaws command.StartAuthSession start_auth_session_row
unfolding start_auth_session_row shape_of parameters_in parameters_pass
start_auth_session_laws = record {
  success = λ r q.
      ok_bind _ (second_handle q.handles) _ (λ bind.
      ok_bind_is _ (parameters_in q.parameters) _ (λ p read.
      ok_bind_is _ (parameters_pass p) _ (λ passed is.
      ok_bind_is _ (session_place r.sessions) _ (λ place free.
      record {
        touches = refl;
        changes = refl;
        grows = more_sessions r place _ free;
        answers = (refl, refl);
        draws = (
          omega (arith, nonce_few p.hash (length p.nonce_caller) (caller_sized p passed is)),
          λ apart. drawn_as_read (λ p. length p.nonce_caller) (parameters_in q.parameters) p read,
        );
        stays = λ may h there. stays_put r.sessions place _ h (some_is _ _ place free) there;
        sized = λ enough sized.
            all_set IsSized r.sessions place (Some _)
            (started_sized p _ q.random enough (caller_sized p passed is)) sized;
      }))));
  order = λ r q. search ordered_steps depth 16;
  plain = λ r q. search plain_steps depth 16;
  tells = λ s covers r q free. session_secrets.start_auth_session_tells s covers r q;
}

-- ---- flushing a session or an object

flushed_touches : (r : Record) (handle : Handle) (is_session : Bool)
    → Touches SessionsAndObjects r (flushed_from r handle is_session)
flushed_touches r handle true = refl
flushed_touches r handle false = refl

flushed_indices : (r : Record) (handle : Handle) (is_session : Bool)
    → (flushed_from r handle is_session).nv ≡ r.nv
flushed_indices r handle true = refl
flushed_indices r handle false = refl

flushed_grows : (r : Record) (handle : Handle) (is_session : Bool)
    → Grows false r (flushed_from r handle is_session)
unfolding slots_without_session without_object
flushed_grows r handle true = omega (arith, removed_taken session_byte r.sessions handle.number)
flushed_grows r handle false = omega (arith, removed_taken transient_byte r.objects handle.number)

flushed_sized : (r : Record) (handle : Handle) (is_session : Bool) → AreSized r
    → AreSized (flushed_from r handle is_session)
flushed_sized r handle true sized = flushed_all r.sessions handle sized
flushed_sized r handle false sized = sized

flushed_success : (r : Record) (q : Request) (handle : Handle) (is_session : Bool)
    → SuccessLaws command.FlushContext r q
    (record { answer = nothing; after = flushed_from r handle is_session })
unfolding shape_of
flushed_success r q handle is_session = record {
  touches = flushed_touches r handle is_session;
  changes = flushed_indices r handle is_session;
  grows = flushed_grows r handle is_session;
  answers = (refl, refl);
  draws = (none_drawn, λ apart. refl);
  stays = λ may. absurd (false≢true (sym may));
  sized = λ enough sized. flushed_sized r handle is_session sized;
}

pub flush_context_laws : RowLaws command.FlushContext flush_context_row
unfolding flush_context_row shape_of
flush_context_laws = record {
  success = λ r q. search (rules, ok_bind, flushed_success) depth 12;
  order = λ r q. search ordered_steps depth 16;
  plain = λ r q. search plain_steps depth 16;
  tells = λ s covers r q free. session_secrets.flush_context_tells s r q;
}

-- ---- TPM2_Clear

plain_update : (x : Result BankValues ChangeFault)
    → Plain (or_refusal (λ fault. action_refusal action.Second (plain code.Failure)) x)
plain_update x = grind arith

late_counted : (Fit : Type 0) (x : Result BankValues ChangeFault)
    → Late Fit (or_refusal (λ fault. action_refusal action.Second (plain code.Failure)) x)
late_counted Fit x = grind arith

-- if the PCR update of TPM2_Clear is not refused, it only increments the number of updates
clear_counts : (refusal : ChangeFault → Refused) (banks : BankValues)
    → IfOk (or_refusal refusal (clear_counted banks))
    (λ new. new ≡ record banks { update_count = banks.update_count + 1 })
unfolding clear_counted
clear_counts refusal banks = by (change_check true 1 banks)
  where
    by : (check : Result (Unit {0}) ChangeFault)
        → IfOk (or_refusal refusal (check >>= λ passed. let counted : BankValues =
        record banks { update_count = banks.update_count + 1 } in Ok counted))
        (λ new. new ≡ record banks { update_count = banks.update_count + 1 })
    by (Ok passed) = refl
    by (Err fault) = tt

all_drawn : 96 ≤ 96
all_drawn = omega arith

pub clear_laws : RowLaws command.Clear clear_row
unfolding clear_row shape_of cleared_hierarchies
clear_laws = record {
  success = λ r q.
      ok_bind _ (all_read q.parameters) _ (λ ended.
      ok_bind _ (refused_if r.fixed.disable_clear
      (action_refusal action.First (plain code.Disabled))) _ (λ a1.
      ok_then _ _ (or_refusal (λ fault. action_refusal action.Second (plain code.Failure))
      (clear_counted r.fixed.banks)) _ (clear_counts _ r.fixed.banks) (λ banks is.
      let after : BankValues → Record = λ b. record r {
        fixed = cleared_fixed b q.random r.fixed;
        objects = cleared_objects r.objects;
        persistent = cleared_persistent r.persistent;
        nv = contents_after_clear r.nv;
      } in
      in_place command.Clear r q _ refl refl (λ old new grows. grows) (ap after is)
      refl (refl, refl)
      (all_drawn, λ apart. refl))));
  order = λ r q. search (ordered_steps, late_counted) depth 16;
  plain = λ r q. search (plain_steps, plain_update) depth 16;
  tells = λ s covers r q free. device_secrets.clear_tells s r q;
}

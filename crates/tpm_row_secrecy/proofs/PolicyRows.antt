-- The rows for policies reveal nothing about secrets, except the row of TPM2_PolicyNV on a policy
-- session.
use Rattle.std.proofs.Common.{ap, refl, sym, ◌∙◌}
use Rattle.std.proofs.lemmas.Bool.{false≢true, not-false}
use Rattle.std.specs.Int.{w32, w8}
use Rattle.std.specs.Option.{option_map_or}
use Rattle.std.specs.Prelude.{Bool, List, Ok, Option, Result, Some, false, length, not, true, ℕ, ◌≡◌}
use Rattle.tpm_actions_policy.specs.Assertions.{assertion_row, body_of, policy_after, session_handle, with_assertion}
use Rattle.tpm_actions_policy.specs.PolicyGetDigest.{policy_get_digest_row}
use Rattle.tpm_actions_policy.specs.PolicyNv.{compared, nv_parameters, nv_parts_of}
use Rattle.tpm_actions_policy.specs.PolicyPcr.{pcr_parameters, pcr_parts_of}
use Rattle.tpm_actions_policy.specs.PolicyRestart.{policy_restart_row}
use Rattle.tpm_actions_policy.specs.PolicySecret.{secret_of, secret_parameters}
use Rattle.tpm_bytes.specs.Reading.{number_at, or_fault, ◌>>=◌}
use Rattle.tpm_commands.specs.declared.command_code.CommandCode.{CommandCode}
use Rattle.tpm_containers.specs.Slots.{free}
use Rattle.tpm_mac.specs.declared.algorithm.HashAlg.{HashAlg}
use Rattle.tpm_nv.specs.declared.fault.ReadFault.{ReadFault}
use Rattle.tpm_policy.specs.Assertion.{Assertion, AuthValue, CpHash, Locality, Nv, NvParts, NvWritten, Or, Password, Pcr, Secret, asserted_policy, nv_asserted}
use Rattle.tpm_policy.specs.State.{Policy, starting}
use Rattle.tpm_record.specs.Entity.{name_of}
use Rattle.tpm_record.specs.Record.{Record}
use Rattle.tpm_record.specs.declared.rows.target.Target.{Target}
use Rattle.tpm_record.specs.rows.Answer.{answer_of, nothing}
use Rattle.tpm_record.specs.rows.Refusals.{fault_refusal, handle_refusal, or_refusal}
use Rattle.tpm_record.specs.rows.Request.{Request, first_handle, second_handle, third_handle}
use Rattle.tpm_record.specs.rows.Rows.{Success, all_read, only}
use Rattle.tpm_record.specs.rows.Target.{reading_passes, target_of}
use Rattle.tpm_session.specs.Session.{with_policy}
use Rattle.tpm_session.specs.Sessions.{session_at, session_byte, with_session_policy}
use Rattle.tpm_session.specs.declared.session.Session.{Session}
use Rattle.tpm_types_common.specs.ActionFault.{plain_fault}
use Rattle.tpm_types_common.specs.Buffer.{buffer_at}
use Rattle.tpm_types_common.specs.DigestList.{digest_list_at}
use Rattle.tpm_types_common.specs.Rc.{plain}
use Rattle.tpm_types_common.specs.SessionType.{is_trial}
use Rattle.tpm_types_common.specs.YesNo.{yes_no_at}
use Rattle.tpm_types_common.specs.declared.action_fault.ActionFault.{ActionFault}
use Rattle.tpm_types_common.specs.declared.handle.Handle.{Handle}
use Rattle.tpm_types_common.specs.declared.refused.Refused.{Refused}
use Rattle.tpm_row_secrecy.proofs.Alike.{alike_after, alike_both, alike_end, alike_found, alike_nested, alike_step_is, either_free}
use Rattle.tpm_row_secrecy.proofs.Bare.{sessions_again, with_sessions}
use Rattle.tpm_row_secrecy.proofs.Changes.{read_shown}
use Rattle.tpm_row_secrecy.proofs.Each.{changed_at_each, places}
use Rattle.tpm_row_secrecy.proofs.Entities.{name_bare, session_at_bare}
use Rattle.tpm_row_secrecy.proofs.Steps.{same_end, same_session, same_step, same_target_is, same_unchanged}
use Rattle.tpm_row_secrecy.specs.Alike.{Same, bare_success}
use Rattle.tpm_row_secrecy.specs.Reads.{handle_passes, is_secret_index, names_index, names_policy_session, reads_secret}
use Rattle.tpm_row_secrecy.specs.Secrecy.{Secrecy, bare_session, without_secrets}
use Rattle.tpm_commands.specs.declared.command_code.CommandCode.TheVariants as command
use Rattle.tpm_types_common.specs.declared.action_check.ActionCheck.TheVariants as action
use Rattle.tpm_types_common.specs.declared.rc.ResponseCode.TheVariants as code
use Rattle.tpm_actions_policy.specs.PolicyNv as of_index
use Rattle.tpm_actions_policy.specs.PolicySecret as of_secret
use Rattle.tpm_policy.specs.Assertion as assertion

module _ (s : Secrecy) (r : Record) (q : Request) where
  -- ---- making an assertion

  policy_set : (handle : Handle) (policy : Policy)
      → places (bare_session s)
      (with_session_policy (places (bare_session s) r.sessions) handle policy)
      ≡ places (bare_session s) (with_session_policy r.sessions handle policy)
  unfolding with_session_policy
  policy_set handle policy =
      ap (places (bare_session s))
      (changed_at_each (bare_session s) session_byte session_byte (λ x. refl)
      (λ x. with_policy x policy) (λ x. with_policy x policy) (λ x. refl) r.sessions
      handle.number)
      ∙ sessions_again s (with_session_policy r.sessions handle policy)

  abbrev kept_after : CommandCode → Record → List (Option Session) → Result Success Refused
  kept_after c t sessions =
      Ok (record { answer = answer_of (body_of c); after = record t { sessions = sessions } })

  asserted_end : (c : CommandCode) (handle : Handle) (a b : Session → Assertion)
      → ((x : Session) → session_at r.sessions handle ≡ Some x
      → asserted_policy x.hash (is_trial x.kind) (a (bare_session s x)) x.policy
      ≡ asserted_policy x.hash (is_trial x.kind) (b x) x.policy)
      → Same s (with_assertion (places (bare_session s) r.sessions) handle a
      >>= kept_after c (without_secrets s r))
      (with_assertion r.sessions handle b >>= kept_after c r)
  asserted_end c handle a b same =
      alike_after (places (bare_session s)) (bare_success s) _ _ _ _
      (alike_found (places (bare_session s)) (bare_session s) _ _ handle_refusal _ _
      (session_at_bare s r.sessions handle) (λ x is.
      alike_both (places (bare_session s)) (policy_after a (bare_session s x)) (policy_after b x) _
      _ (ap (or_refusal fault_refusal) (same x is)) (λ policy.
      alike_end (places (bare_session s)) _ _ (policy_set handle policy))))
      (λ xs ys alike. same_end s _ _ _ (with_sessions s r xs ys alike))

  by_parameters : {P : Type 0} (c : CommandCode) (x : Result P Refused)
      (f : P → Session → Assertion) → ((p : P) (y : Session) → f p (bare_session s y) ≡ f p y)
      → Same s (session_handle c q.handles >>= λ handle. (x >>= λ p. Ok (f p))
      >>= λ a. with_assertion (places (bare_session s) r.sessions) handle a
      >>= kept_after c (without_secrets s r))
      (session_handle c q.handles >>= λ handle. (x >>= λ p. Ok (f p))
      >>= λ a. with_assertion r.sessions handle a >>= kept_after c r)
  by_parameters c x f same =
      same_step s (session_handle c q.handles) _ _ (λ handle.
      alike_nested (bare_success s) x x _ _ _ _
      (same_step s x _ _ (λ p.
      asserted_end c handle (f p) (f p)
      (λ y is. ap (λ (a : Assertion). asserted_policy y.hash (is_trial y.kind) a y.policy)
      (same p y)))))

  pub policy_pcr_tells : Same s (assertion_row command.PolicyPcr (without_secrets s r) q)
      (assertion_row command.PolicyPcr r q)
  unfolding assertion_row
  policy_pcr_tells = by_parameters command.PolicyPcr (pcr_parameters q.parameters)
      (λ p y. Pcr (pcr_parts_of r p y)) (λ p y. refl)

  pub policy_or_tells : Same s (assertion_row command.PolicyOr (without_secrets s r) q)
      (assertion_row command.PolicyOr r q)
  unfolding assertion_row
  policy_or_tells = by_parameters command.PolicyOr (only (digest_list_at q.parameters))
      (λ digests y. Or digests) (λ p y. refl)

  pub policy_auth_value_tells : Same s
      (assertion_row command.PolicyAuthValue (without_secrets s r) q)
      (assertion_row command.PolicyAuthValue r q)
  unfolding assertion_row
  policy_auth_value_tells = by_parameters command.PolicyAuthValue (all_read q.parameters)
      (λ ended y. AuthValue) (λ p y. refl)

  pub policy_password_tells : Same s (assertion_row command.PolicyPassword (without_secrets s r) q)
      (assertion_row command.PolicyPassword r q)
  unfolding assertion_row
  policy_password_tells = by_parameters command.PolicyPassword (all_read q.parameters)
      (λ ended y. Password) (λ p y. refl)

  pub policy_command_code_tells : Same s
      (assertion_row command.PolicyCommandCode (without_secrets s r) q)
      (assertion_row command.PolicyCommandCode r q)
  unfolding assertion_row
  policy_command_code_tells =
      by_parameters command.PolicyCommandCode
      (only (or_fault (number_at w32 q.parameters) (plain code.Insufficient)))
      (λ number y. assertion.CommandCode r.fixed.profile number) (λ p y. refl)

  pub policy_cp_hash_tells : Same s (assertion_row command.PolicyCpHash (without_secrets s r) q)
      (assertion_row command.PolicyCpHash r q)
  unfolding assertion_row
  policy_cp_hash_tells = by_parameters command.PolicyCpHash (only (buffer_at 32 q.parameters))
      (λ cp_hash y. CpHash cp_hash) (λ p y. refl)

  pub policy_nv_written_tells : Same s
      (assertion_row command.PolicyNvWritten (without_secrets s r) q)
      (assertion_row command.PolicyNvWritten r q)
  unfolding assertion_row
  policy_nv_written_tells = by_parameters command.PolicyNvWritten (only (yes_no_at q.parameters))
      (λ is_written y. NvWritten is_written) (λ p y. refl)

  pub policy_locality_tells : Same s (assertion_row command.PolicyLocality (without_secrets s r) q)
      (assertion_row command.PolicyLocality r q)
  unfolding assertion_row
  policy_locality_tells =
      by_parameters command.PolicyLocality
      (only (or_fault (number_at w8 q.parameters) (plain code.Insufficient)))
      (λ localities y. Locality localities) (λ p y. refl)

  -- ---- TPM2_PolicySecret, whose assertion contains the Name of the entity

  secret_same : (p : of_secret.Parameters) (entity : Handle) (x : Session)
      → asserted_policy x.hash (is_trial x.kind)
      (Secret (secret_of p (name_of (without_secrets s r) entity) (bare_session s x))) x.policy
      ≡ asserted_policy x.hash (is_trial x.kind) (Secret (secret_of p (name_of r entity) x))
      x.policy
  secret_same p entity x =
      ap (λ (name : List ℕ). asserted_policy x.hash (is_trial x.kind) (Secret (secret_of p name x))
      x.policy) (name_bare s r entity)

  pub policy_secret_tells : Same s (assertion_row command.PolicySecret (without_secrets s r) q)
      (assertion_row command.PolicySecret r q)
  unfolding assertion_row
  policy_secret_tells =
      same_step s (second_handle q.handles) _ _ (λ handle.
      alike_nested (bare_success s) (first_handle q.handles) (first_handle q.handles) _ _ _ _
      (same_step s (first_handle q.handles) _ _ (λ entity.
      alike_nested (bare_success s) (secret_parameters q.parameters)
      (secret_parameters q.parameters) _ _ _ _
      (same_step s (secret_parameters q.parameters) _ _ (λ p.
      asserted_end command.PolicySecret handle
      (λ y. Secret (secret_of p (name_of (without_secrets s r) entity) y))
      (λ y. Secret (secret_of p (name_of r entity) y)) (λ x is. secret_same p entity x))))))

  -- ---- TPM2_PolicyNV with an index that is not secret, or on a trial session

  abbrev parts_with : Target → of_index.Parameters → List ℕ → Result (List ℕ) ActionFault → NvParts
  parts_with target p name found = record {
    name = name;
    operand = p.operand;
    offset = p.offset;
    operation = p.operation;
    compared = found;
  }

  parts_shown : (target : Target) (p : of_index.Parameters)
      → names_index (is_secret_index s) r target.handle ≡ false
      → nv_parts_of (without_secrets s r) target p ≡ nv_parts_of r target p
  parts_shown target p shown =
      ap (λ (name : List ℕ). parts_with target p name (compared (without_secrets s r) target p))
      (name_bare s r target.handle)
      ∙ ap (λ (bytes : Result (List ℕ) ReadFault). parts_with target p (name_of r target.handle)
      (reading_passes target
      >>= λ readable. or_fault bytes (plain_fault action.Fourth code.NvRange)))
      (read_shown s r.nv target.handle p.offset (length p.operand) shown)

  -- In a trial session, TPM2_PolicyNV compares nothing. Therefore its assertion does not depend on
  -- secrets.
  trial_same : (trial : Bool) (hash : HashAlg) (target : Target) (p : of_index.Parameters)
      (policy : Policy) → trial ≡ true
      → nv_asserted hash trial (nv_parts_of (without_secrets s r) target p) policy
      ≡ nv_asserted hash trial (nv_parts_of r target p) policy
  unfolding nv_asserted
  trial_same true hash target p policy is =
      ap (λ (name : List ℕ). nv_asserted hash true
      (record (nv_parts_of (without_secrets s r) target p) { name = name }) policy)
      (name_bare s r target.handle)
  trial_same false hash target p policy is = absurd (false≢true is)

  is_trial_session : (handle : Handle) (x : Session) → session_at r.sessions handle ≡ Some x
      → names_policy_session r handle ≡ false → is_trial x.kind ≡ true
  is_trial_session handle x is free =
      not-false (is_trial x.kind)
      (sym
      (ap (λ (found : Option Session). option_map_or (λ (y : Session). not (is_trial y.kind))
      found false) is) ∙ free)

  nv_row : ((handle : Handle) → third_handle q.handles ≡ Ok handle → (target : Target)
      → second_handle q.handles ≡ Ok target.handle → (p : of_index.Parameters) (x : Session)
      → session_at r.sessions handle ≡ Some x
      → nv_asserted x.hash (is_trial x.kind) (nv_parts_of (without_secrets s r) target p) x.policy
      ≡ nv_asserted x.hash (is_trial x.kind) (nv_parts_of r target p) x.policy)
      → Same s (assertion_row command.PolicyNv (without_secrets s r) q)
      (assertion_row command.PolicyNv r q)
  unfolding assertion_row
  nv_row same =
      alike_step_is (bare_success s) (third_handle q.handles) _ _ (λ handle named.
      alike_nested (bare_success s) (target_of (without_secrets s r) q) (target_of r q) _ _ _ _
      (same_target_is s r q _ _ (λ target second.
      alike_nested (bare_success s) (nv_parameters q.parameters) (nv_parameters q.parameters) _ _ _
      _
      (same_step s (nv_parameters q.parameters) _ _ (λ p.
      asserted_end command.PolicyNv handle (λ y. Nv (nv_parts_of (without_secrets s r) target p))
      (λ y. Nv (nv_parts_of r target p)) (λ x is. same handle named target second p x is))))))

  pub policy_nv_tells : reads_secret s r command.PolicyNv q ≡ false
      → Same s (assertion_row command.PolicyNv (without_secrets s r) q)
      (assertion_row command.PolicyNv r q)
  policy_nv_tells free =
      either_free (handle_passes (names_index (is_secret_index s) r) (second_handle q.handles))
      (handle_passes (names_policy_session r) (third_handle q.handles)) free
      (λ shown. nv_row (λ handle named target second p x is.
      ap (λ (parts : NvParts). nv_asserted x.hash (is_trial x.kind) parts x.policy)
      (parts_shown target p (sym (ap (handle_passes (names_index (is_secret_index s) r)) second)
      ∙ shown))))
      (λ trial. nv_row (λ handle named target second p x is.
      trial_same (is_trial x.kind) x.hash target p x.policy
      (is_trial_session handle x is (sym (ap (handle_passes (names_policy_session r)) named)
      ∙ trial))))

  -- ---- the other policy commands

  pub policy_get_digest_tells : Same s (policy_get_digest_row (without_secrets s r) q)
      (policy_get_digest_row r q)
  unfolding policy_get_digest_row
  policy_get_digest_tells =
      same_step s (first_handle q.handles) _ _ (λ handle.
      same_step s (all_read q.parameters) _ _ (λ ended.
      same_session s r handle _ _ (λ x is. same_unchanged s r _)))

  pub policy_restart_tells : Same s (policy_restart_row (without_secrets s r) q)
      (policy_restart_row r q)
  unfolding policy_restart_row
  policy_restart_tells =
      same_step s (first_handle q.handles) _ _ (λ handle.
      same_step s (all_read q.parameters) _ _ (λ ended.
      same_session s r handle _ _ (λ x is.
      same_end s nothing _ _ (with_sessions s r _ _ (policy_set handle (starting x.hash))))))

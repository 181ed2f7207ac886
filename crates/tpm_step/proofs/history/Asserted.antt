-- Each command makes the assertion that the history determines for it.
use Rattle.std.proofs.Common.{◌≡◌, ℕ, Bool, List, [], ◌∷◌, map, Result, Ok, Err, IfOk, refl, ap, sym, ◌∙◌}
use Rattle.std.specs.Int.{w8, w32}
use Rattle.tpm_bytes.specs.Reading.{◌>>=◌, number_at, or_fault}
use Rattle.tpm_bytes.proofs.Fields.{ok_is}
use Rattle.tpm_mac.specs.declared.algorithm.HashAlg.{HashAlg}
use Rattle.tpm_policy.proofs.Made.{policy_made}
use Rattle.tpm_commands.specs.declared.profile.Profile.TheVariants.{Complete}
use Rattle.tpm_policy.specs.Made.{policy_with}
use Rattle.tpm_policy.specs.Assertion.{Assertion, Pcr, Or, AuthValue, Password, CommandCode, CpHash, NvWritten, Locality, Secret, Nv, PcrParts, asserted_policy}
use Rattle.tpm_policy.specs.State.{Policy}
use Rattle.tpm_session.specs.Session.{with_policy}
use Rattle.tpm_session.specs.declared.session.Session.{Session}
use Rattle.tpm_types_common.specs.Buffer.{buffer_at}
use Rattle.tpm_types_common.specs.DigestList.{digest_list_at}
use Rattle.tpm_types_common.specs.Rc.{plain}
use Rattle.tpm_types_common.specs.SessionType.{is_trial}
use Rattle.tpm_types_common.specs.YesNo.{yes_no_at}
use Rattle.tpm_types_common.specs.declared.action_fault.ActionFault.{ActionFault}
use Rattle.tpm_types_common.specs.declared.handle.Handle.{Handle}
use Rattle.tpm_types_common.specs.declared.rc.ResponseCode.TheVariants as code
use Rattle.tpm_types_common.specs.declared.refused.Refused.{Refused}
use Rattle.tpm_commands.specs.declared.command_code.CommandCode.{CommandCode as Code}
use Rattle.tpm_commands.specs.declared.command_code.CommandCode.TheVariants as command
use Rattle.tpm_record.specs.Entity.{name_of}
use Rattle.tpm_record.specs.Record.{Record}
use Rattle.tpm_record.specs.rows.Refusals.{fault_refusal, or_refusal}
use Rattle.tpm_record.specs.rows.Request.{Request, first_handle, second_handle}
use Rattle.tpm_record.specs.rows.Rows.{all_read, only}
use Rattle.tpm_record.specs.rows.Target.{attributes_of, target_of}
use Rattle.tpm_record.specs.declared.rows.target.Target.{Target}
use Rattle.tpm_actions_policy.specs.Assertions.{assertion_in, policy_after}
use Rattle.tpm_actions_policy.specs.PolicyNv.{Parameters as NvParameters, nv_parameters}
use Rattle.tpm_actions_policy.specs.PolicyPcr.{Parameters as PcrParameters, pcr_parameters, pcr_parts_of}
use Rattle.tpm_actions_policy.specs.PolicySecret.{Parameters as SecretParameters, secret_of, secret_parameters}
use Rattle.tpm_step.proofs.rows.Binding.{ok_bind, ok_bind_is, ok_then}
use Rattle.tpm_step.specs.history.DevicePcrs.{HasPcrs}
use Rattle.tpm_step.specs.history.DeviceSessions.{SessionFacts, facts_of, session_facts}
use Rattle.tpm_step.specs.history.History.{AcceptedCommand, History}
use Rattle.tpm_step.specs.history.Policies.{assertion_by, pcr_parts_in, with_assertion}
use Rattle.tpm_step.specs.history.Sessions.{asserted_by}
use Rattle.tpm_step.specs.history.View.{View, name_in, view_of}
use Rattle.tpm_step.proofs.history.Digests.{digest_same}
use Rattle.tpm_step.proofs.history.LiveSessions.{ChangesAs}
use Rattle.tpm_step.proofs.history.Views.{view_named}

-- ---- Names

first_name : (r : Record) (handles : List Handle) (handle : Handle)
    → first_handle handles ≡ Ok handle → name_in (map (view_of r) handles) 0 ≡ name_of r handle
first_name r [] handle is = absurd cc
first_name r (first ∷ handles) handle is =
    view_named r first ∙ ap (name_of r) (ok_is {E = Refused} first handle is)

second_name : (r : Record) (handles : List Handle) (handle : Handle)
    → second_handle handles ≡ Ok handle → name_in (map (view_of r) handles) 1 ≡ name_of r handle
second_name r [] handle is = absurd cc
second_name r (first ∷ []) handle is = absurd cc
second_name r (first ∷ second ∷ handles) handle is =
    view_named r second ∙ ap (name_of r) (ok_is {E = Refused} second handle is)

-- ---- the assertion of a command

-- Two assertions have the same effect on every policy.
abbrev MakesAs : HashAlg → Assertion → Assertion → Type 0
MakesAs hash one other = (trial : Bool) (policy : Policy)
    → policy_with hash trial one policy ≡ policy_with hash trial other policy

-- The history determines an assertion for the command on this session, and this assertion has the
-- same effect on every policy as the device's assertion.
pub record Tells (c : AcceptedCommand) (history : History) (code : Code) (s : Session)
    (a : Assertion) : Type 0 where
  pub told : Assertion
  pub is : assertion_by code c history s.hash s.nonce_tpm ≡ Ok told
  pub makes : MakesAs s.hash a told

-- The history determines an assertion for the command on every session, and this assertion has the
-- same effect on every policy as the device's assertion.
abbrev pub IsAsserted : AcceptedCommand → History → Code → (Session → Assertion) → Type 0
IsAsserted c history code assertion = (s : Session) → Tells c history code s (assertion s)

module _ (r : Record) (c : AcceptedCommand) (history : History)
    (viewed : c.views ≡ map (view_of r) c.request.handles) (pcrs : HasPcrs r history) where
  abbrev q : Request
  q = c.request

  pcr_same : (p : PcrParameters) (s : Session) → pcr_parts_of r p s ≡ pcr_parts_in history s.hash p
  pcr_same p s =
      ap (λ (digest : List ℕ). record (pcr_parts_of r p s) { digest = digest })
      (digest_same r history s.hash p.selection pcrs.values)
      ∙ ap (λ (count : ℕ). record (pcr_parts_in history s.hash p) { update_count = count })
      pcrs.updates

  by_pcr : IfOk (assertion_in command.PolicyPcr r q) (IsAsserted c history command.PolicyPcr)
  by_pcr =
      ok_bind_is _ (pcr_parameters q.parameters) _ (λ p read. λ s. record {
        told = Pcr (pcr_parts_in history s.hash p);
        is =
            ap (λ (x : Result PcrParameters Refused). x
            >>= λ p. Ok (Pcr (pcr_parts_in history s.hash p))) read;
        makes =
            λ trial policy. ap (λ (parts : PcrParts). policy_with s.hash trial (Pcr parts) policy)
            (pcr_same p s);
      })

  -- If an assertion depends only on the command's parameters, the history determines it.
  by_reading : (X : Type 0) (code : Code) (read : Result X Refused) (make : X → Assertion)
      → ((s : Session) → assertion_by code c history s.hash s.nonce_tpm
      ≡ (read >>= λ x. Ok (make x)))
      → IfOk (read >>= λ x. Ok (λ (s : Session). make x)) (IsAsserted c history code)
  by_reading X code read make told =
      ok_bind_is _ read _ (λ x found. λ s. record {
        told = make x;
        is = told s ∙ ap (λ (y : Result X Refused). y >>= λ x. Ok (make x)) found;
        makes = λ trial policy. refl;
      })

  by_or : IfOk (assertion_in command.PolicyOr r q) (IsAsserted c history command.PolicyOr)
  by_or = by_reading (List (List ℕ)) command.PolicyOr (only (digest_list_at q.parameters)) Or
      (λ s. refl)

  by_code : IfOk (assertion_in command.PolicyCommandCode r q)
      (IsAsserted c history command.PolicyCommandCode)
  by_code =
      ok_bind_is _ (only (or_fault (number_at w32 q.parameters) (plain code.Insufficient))) _
      (λ number read. λ s. record {
        told = CommandCode Complete number;
        is = ap (λ (x : Result ℕ Refused). x >>= λ n. Ok (CommandCode Complete n)) read;
        makes = λ trial policy. refl;
      })

  by_cp_hash : IfOk (assertion_in command.PolicyCpHash r q)
      (IsAsserted c history command.PolicyCpHash)
  by_cp_hash = by_reading (List ℕ) command.PolicyCpHash (only (buffer_at 32 q.parameters)) CpHash
      (λ s. refl)

  by_written : IfOk (assertion_in command.PolicyNvWritten r q)
      (IsAsserted c history command.PolicyNvWritten)
  by_written = by_reading Bool command.PolicyNvWritten (only (yes_no_at q.parameters)) NvWritten
      (λ s. refl)

  by_locality : IfOk (assertion_in command.PolicyLocality r q)
      (IsAsserted c history command.PolicyLocality)
  by_locality = by_reading ℕ command.PolicyLocality
      (only (or_fault (number_at w8 q.parameters) (plain code.Insufficient))) Locality (λ s. refl)

  by_secret : IfOk (assertion_in command.PolicySecret r q)
      (IsAsserted c history command.PolicySecret)
  by_secret =
      ok_bind_is _ (first_handle q.handles) _ (λ entity first.
      ok_bind_is _ (secret_parameters q.parameters) _ (λ p read. λ s. record {
        told = Secret (secret_of p (name_in c.views 0) s);
        is =
            ap (λ (x : Result SecretParameters Refused). x
            >>= λ p. Ok (Secret (secret_of p (name_in c.views 0) s))) read;
        makes = λ trial policy.
            ap (λ (name : List ℕ). policy_with s.hash trial (Secret (secret_of p name s)) policy)
            (sym (ap (λ (views : List View). name_in views 0) viewed
            ∙ first_name r q.handles entity first));
      }))

  abbrev nv_told : NvParameters → List ℕ → Assertion
  nv_told p name =
      Nv (record {
        name = name;
        operand = p.operand;
        offset = p.offset;
        operation =
            p.operation;
        compared = Ok [];
      })

  by_nv : IfOk (assertion_in command.PolicyNv r q) (IsAsserted c history command.PolicyNv)
  by_nv =
      ok_then (λ (t : Target). second_handle q.handles ≡ Ok t.handle) _ (target_of r q) _
      (ok_bind _ (first_handle q.handles) _ (λ authority.
      ok_bind_is _ (second_handle q.handles) _ (λ handle second.
      ok_bind _ (attributes_of r handle) _ (λ attributes. second))))
      (λ target second.
      ok_bind_is _ (nv_parameters q.parameters) _ (λ p read. λ s. record {
        told = nv_told p (name_in c.views 1);
        is = ap (λ (x : Result NvParameters Refused). x >>= λ p. Ok (nv_told p (name_in c.views 1)))
            read;
        makes = λ trial policy.
            ap (λ (name : List ℕ). policy_with s.hash trial (nv_told p name) policy)
            (sym (ap (λ (views : List View). name_in views 1) viewed
            ∙ second_name r q.handles target.handle second));
      }))

  pub is_asserted : (code : Code) → IfOk (assertion_in code r q) (IsAsserted c history code)
  is_asserted command.PolicyPcr = by_pcr
  is_asserted command.PolicyOr = by_or
  is_asserted command.PolicyAuthValue =
      ok_bind _ (all_read q.parameters) _
      (λ ended. λ s. record { told = AuthValue; is = refl; makes = λ trial policy. refl })
  is_asserted command.PolicyPassword =
      ok_bind _ (all_read q.parameters) _
      (λ ended. λ s. record { told = Password; is = refl; makes = λ trial policy. refl })
  is_asserted command.PolicyCommandCode = by_code
  is_asserted command.PolicyCpHash = by_cp_hash
  is_asserted command.PolicyNvWritten = by_written
  is_asserted command.PolicyLocality = by_locality
  is_asserted command.PolicySecret = by_secret
  is_asserted command.PolicyNv = by_nv
  is_asserted _ = tt

-- ---- how an assertion changes a session

pub policy_passed : (x : Result Policy ActionFault) (policy : Policy)
    → or_refusal fault_refusal x ≡ Ok policy → x ≡ Ok policy
policy_passed (Ok made) policy is = ap (λ (p : Policy). Ok p) (ok_is {E = Refused} made policy is)
policy_passed (Err fault) policy is = absurd cc

-- the facts about a session after an assertion
abbrev asserted_facts : Assertion → SessionFacts → SessionFacts
asserted_facts a f =
    record f { policy = policy_with f.start.hash (is_trial f.start.kind) a f.policy }

pub asserted_as : (c : AcceptedCommand) (history : History) (code : Code)
    (assertion : Session → Assertion) (s : Session) (policy : Policy)
    → IsAsserted c history code assertion → policy_after assertion s ≡ Ok policy
    → ChangesAs (λ s. with_policy s policy) (asserted_by code c history) s
asserted_as c history code assertion s policy is made l same =
    let trial : Bool = is_trial s.kind in
    let it : Tells c history code s (assertion s) = is s in
    let told : assertion_by code c history l.hash l.nonce_tpm ≡ Ok it.told =
    ap (λ (f : SessionFacts). assertion_by code c history f.start.hash f.nonce_tpm) (sym same)
    ∙ it.is in
    ap (λ (p : Policy). session_facts (with_policy s p))
    (policy_made s.hash trial (assertion s) s.policy policy
    (policy_passed (asserted_policy s.hash trial (assertion s) s.policy) policy made)
    ∙ it.makes trial s.policy)
    ∙ ap (asserted_facts it.told) same
    ∙ sym (ap (λ (x : Result Assertion Refused). facts_of
    (record l { assertions = with_assertion x l.assertions })) told)

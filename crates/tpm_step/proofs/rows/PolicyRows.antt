-- The rows of the commands for policies satisfy the laws about rows.
use Rattle.std.specs.Prelude.{◌==◌, ◌||◌, if◌then◌else◌, is_some}
use Rattle.std.proofs.Common.{◌≡◌, Bool, Err, IfOk, List, Ok, Option, Result, Some, arith, length}
use Rattle.std.proofs.Common.{refl, rules, subst, sym, true, ℕ}
use Rattle.std.proofs.lemmas.Bool.Decides.{nat_tests}
use Rattle.tpm_mac.specs.Digest.{digest_size}
use Rattle.tpm_mac.specs.declared.algorithm.HashAlg.{HashAlg}
use Rattle.tpm_types_common.specs.Handle.{handle_type}
use Rattle.tpm_types_common.specs.Rc.{plain}
use Rattle.tpm_types_common.specs.SessionType.{is_trial}
use Rattle.tpm_types_common.specs.declared.action_fault.ActionFault.{ActionFault}
use Rattle.tpm_types_common.specs.declared.handle.Handle.{Handle}
use Rattle.tpm_commands.specs.CommandCode.{part_of, shape_of}
use Rattle.tpm_commands.specs.Shape.{rule_without_role}
use Rattle.tpm_commands.specs.declared.command_code.CommandCode.{CommandCode}
use Rattle.tpm_commands.specs.declared.command_code.CommandCode.TheVariants as command
use Rattle.tpm_commands.specs.declared.shape.HandleKind.TheVariants as handle_kind
use Rattle.tpm_containers.specs.Slots.{AreAll, taken_count}
use Rattle.tpm_policy.specs.Assertion.{Assertion, asserted_policy}
use Rattle.tpm_policy.specs.State.{Policy, starting}
use Rattle.tpm_session.specs.Sessions.{session_at, with_session_policy}
use Rattle.tpm_session.specs.declared.session.Session.{Session}
use Rattle.tpm_record.specs.Entity.{is_present}
use Rattle.tpm_record.specs.Record.{Record}
use Rattle.tpm_record.specs.rows.Answer.{AnswerParts, answer_of, nothing}
use Rattle.tpm_record.specs.rows.Refusals.{fault_refusal, or_refusal}
use Rattle.tpm_record.specs.rows.Request.{Request, first_handle}
use Rattle.tpm_record.specs.rows.Rows.{Success, all_read}
use Rattle.tpm_actions_policy.specs.Assertions.{assertion_in, assertion_row, body_of, policy_after}
use Rattle.tpm_actions_policy.specs.Assertions.{policy_session, session_handle, with_assertion}
use Rattle.tpm_actions_policy.specs.PolicyGetDigest.{policy_get_digest_row}
use Rattle.tpm_actions_policy.specs.PolicyNv.{nv_parameters}
use Rattle.tpm_actions_policy.specs.PolicyRestart.{policy_restart_row}
use Rattle.tpm_actions_policy.specs.PolicySecret.{secret_parameters}
use Rattle.tpm_step.specs.rows.Draws.{DrawsAsSaid}
use Rattle.tpm_step.specs.rows.Footprint.{Touches}
use Rattle.tpm_commands.specs.Part.{Part, Sessions}
use Rattle.tpm_step.specs.rows.Handles.{FitsRule}
use Rattle.tpm_step.specs.rows.IndexChanges.{ChangesIndices}
use Rattle.tpm_step.specs.rows.Order.{Late}
use Rattle.tpm_step.specs.rows.RowLaws.{RowLaws, SuccessLaws}
use Rattle.tpm_step.specs.rows.Sessions.{SessionsStay}
use Rattle.tpm_step.specs.rows.Shapes.{AnswersItsShape}
use Rattle.tpm_step.specs.rows.Sizes.{AreSized, IsSized}
use Rattle.tpm_step.proofs.rows.Binding.{ok_bind, ok_bind_is, ok_then, some_is}
use Rattle.tpm_step.proofs.rows.Order.{late_found, ordered_steps}
use Rattle.tpm_step.proofs.rows.Parts.{same_sessions}
use Rattle.tpm_step.proofs.rows.PlainSteps.{plain_steps}
use Rattle.tpm_step.proofs.rows.SessionPlaces.{policy_all, policy_same, policy_stays}
use Rattle.tpm_policy.proofs.Sizes.{asserted_sized, starting_sized}
use Rattle.tpm_step.proofs.rows.Successes.{GrowsNothing, in_place_steps, none_drawn}
use Rattle.tpm_row_secrecy.proofs.PolicyRows as policy_secrets

-- ---- how the rows of policies refuse

-- If a handle has the type of a policy session, and its entity exists, then the handle names a
-- session.
session_there : (type : ℕ) (session other : Bool) → (type == 0x03) ≡ true
    → (if (type == 0x02 || type == 0x03) then session else other) ≡ true → session ≡ true
session_there type session other kind present = grind (arith, nat_tests)

late_session : (Fit : Type 0) (r : Record) (h : Handle)
    → (Fit → FitsRule r (rule_without_role handle_kind.PolicySession) h)
    → Late Fit (policy_session r.sessions h)
unfolding is_present
late_session Fit r h fits =
    late_found Fit (session_at r.sessions h)
    (λ fit. session_there (handle_type h) (is_some (session_at r.sessions h)) _ (fits fit).0
    (fits fit).1)

ruleset policy_orders = (ordered_steps, late_session)

-- ---- changing the policy of a session

checked_assertion : (hash : HashAlg) (trial : Bool) (assertion : Assertion) (policy : Policy)
    → IfOk (or_refusal fault_refusal (asserted_policy hash trial assertion policy))
    (λ new. length new.digest ≡ digest_size hash)
checked_assertion hash trial assertion policy =
    by (asserted_policy hash trial assertion policy) (asserted_sized hash trial assertion policy)
  where
    by : (x : Result Policy ActionFault)
        → IfOk x (λ (new : Policy). length new.digest ≡ digest_size hash)
        → IfOk (or_refusal fault_refusal x) (λ new. length new.digest ≡ digest_size hash)
    by (Ok new) is = is
    by (Err fault) is = tt

-- The number of sessions is unchanged, and each session still exists. If the fields of all sessions
-- had the right sizes, they still do.
record KeepsSessions (r : Record) (sessions : List (Option Session)) : Type 0 where
  count : taken_count sessions ≡ taken_count r.sessions
  stay : SessionsStay r (record r { sessions = sessions })
  sized : AreSized r → AreAll IsSized sessions

policy_keeps : (r : Record) (handle : Handle) (s : Session) (policy : Policy)
    → session_at r.sessions handle ≡ Some s → length policy.digest ≡ digest_size s.hash
    → KeepsSessions r (with_session_policy r.sessions handle policy)
policy_keeps r handle s policy is digest = record {
  count = policy_same r.sessions handle policy;
  stay = policy_stays r handle policy;
  sized = λ sized. policy_all r.sessions handle s policy is digest sized;
}

keeping_success : (c : CommandCode) (r : Record) (q : Request) (answer : AnswerParts)
    (sessions : List (Option Session)) → part_of c ≡ Sessions → GrowsNothing c
    → AnswersItsShape c (record { answer = answer; after = r })
    → DrawsAsSaid c q (record { answer = answer; after = r }) → KeepsSessions r sessions
    → SuccessLaws c r q (record { answer = answer; after = record r { sessions = sessions } })
keeping_success c r q answer sessions part nothing answers draws keeps =
    let after : Record = record r { sessions = sessions } in
    record {
      touches = subst (λ (p : Part). Touches p r after) (sym part) refl;
      changes = subst (λ (p : Part). ChangesIndices p q r.nv r.nv) (sym part) refl;
      grows = nothing r after (same_sessions r sessions keeps.count);
      answers = answers;
      draws = draws;
      stays = λ may. keeps.stay;
      sized = λ enough sized. keeps.sized sized;
    }

-- ---- the row of all assertions

-- the success of a command that makes an assertion, before the session changes
abbrev made : CommandCode → Record → Success
made c r = record { answer = answer_of (body_of c); after = r }

assertion_success : (c : CommandCode) (r : Record) (q : Request) → part_of c ≡ Sessions
    → GrowsNothing c → AnswersItsShape c (made c r) → DrawsAsSaid c q (made c r)
    → IfOk (assertion_row c r q) (SuccessLaws c r q)
unfolding assertion_row
assertion_success c r q part nothing answers draws =
    ok_bind _ (session_handle c q.handles) _ (λ handle.
    ok_bind _ (assertion_in c r q) _ (λ assertion.
    ok_then (KeepsSessions r) _ (with_assertion r.sessions handle assertion) _
    (ok_bind_is _ (policy_session r.sessions handle) _ (λ s is.
    ok_then _ _ (policy_after assertion s) _
    (checked_assertion s.hash (is_trial s.kind) (assertion s) s.policy) (λ policy digest.
    policy_keeps r handle s policy (some_is _ _ s is) digest)))
    (λ sessions keeps. keeping_success c r q (answer_of (body_of c)) sessions part nothing answers
    draws keeps)))

ruleset assertion_successes = (rules, assertion_success, none_drawn)

pub policy_pcr_laws : RowLaws command.PolicyPcr (assertion_row command.PolicyPcr)
unfolding assertion_row shape_of
policy_pcr_laws = record {
  success = λ r q. search assertion_successes depth 12;
  order = λ r q. search policy_orders depth 16;
  plain = λ r q. search plain_steps depth 16;
  tells = λ s covers r q free. policy_secrets.policy_pcr_tells s r q;
}

pub policy_or_laws : RowLaws command.PolicyOr (assertion_row command.PolicyOr)
unfolding assertion_row shape_of
policy_or_laws = record {
  success = λ r q. search assertion_successes depth 12;
  order = λ r q. search policy_orders depth 16;
  plain = λ r q. search plain_steps depth 16;
  tells = λ s covers r q free. policy_secrets.policy_or_tells s r q;
}

pub policy_auth_value_laws : RowLaws command.PolicyAuthValue (assertion_row command.PolicyAuthValue)
unfolding assertion_row shape_of
policy_auth_value_laws = record {
  success = λ r q. search assertion_successes depth 12;
  order = λ r q. search policy_orders depth 16;
  plain = λ r q. search plain_steps depth 16;
  tells = λ s covers r q free. policy_secrets.policy_auth_value_tells s r q;
}

pub policy_password_laws : RowLaws command.PolicyPassword (assertion_row command.PolicyPassword)
unfolding assertion_row shape_of
policy_password_laws = record {
  success = λ r q. search assertion_successes depth 12;
  order = λ r q. search policy_orders depth 16;
  plain = λ r q. search plain_steps depth 16;
  tells = λ s covers r q free. policy_secrets.policy_password_tells s r q;
}

pub policy_command_code_laws : RowLaws command.PolicyCommandCode
    (assertion_row command.PolicyCommandCode)
unfolding assertion_row shape_of
policy_command_code_laws = record {
  success = λ r q. search assertion_successes depth 12;
  order = λ r q. search policy_orders depth 16;
  plain = λ r q. search plain_steps depth 16;
  tells = λ s covers r q free. policy_secrets.policy_command_code_tells s r q;
}

pub policy_cp_hash_laws : RowLaws command.PolicyCpHash (assertion_row command.PolicyCpHash)
unfolding assertion_row shape_of
policy_cp_hash_laws = record {
  success = λ r q. search assertion_successes depth 12;
  order = λ r q. search policy_orders depth 16;
  plain = λ r q. search plain_steps depth 16;
  tells = λ s covers r q free. policy_secrets.policy_cp_hash_tells s r q;
}

pub policy_nv_written_laws : RowLaws command.PolicyNvWritten (assertion_row command.PolicyNvWritten)
unfolding assertion_row shape_of
policy_nv_written_laws = record {
  success = λ r q. search assertion_successes depth 12;
  order = λ r q. search policy_orders depth 16;
  plain = λ r q. search plain_steps depth 16;
  tells = λ s covers r q free. policy_secrets.policy_nv_written_tells s r q;
}

pub policy_locality_laws : RowLaws command.PolicyLocality (assertion_row command.PolicyLocality)
unfolding assertion_row shape_of
policy_locality_laws = record {
  success = λ r q. search assertion_successes depth 12;
  order = λ r q. search policy_orders depth 16;
  plain = λ r q. search plain_steps depth 16;
  tells = λ s covers r q free. policy_secrets.policy_locality_tells s r q;
}

pub policy_secret_laws : RowLaws command.PolicySecret (assertion_row command.PolicySecret)
unfolding assertion_row shape_of secret_parameters
policy_secret_laws = record {
  success = λ r q. search assertion_successes depth 12;
  order = λ r q. search policy_orders depth 16;
  plain = λ r q. search plain_steps depth 16;
  tells = λ s covers r q free. policy_secrets.policy_secret_tells s r q;
}

pub policy_nv_laws : RowLaws command.PolicyNv (assertion_row command.PolicyNv)
unfolding assertion_row shape_of nv_parameters
policy_nv_laws = record {
  success = λ r q. search assertion_successes depth 12;
  order = λ r q. search policy_orders depth 16;
  plain = λ r q. search plain_steps depth 16;
  tells = λ s covers r q free. policy_secrets.policy_nv_tells s r q free;
}

-- ---- other rows of policies

pub policy_get_digest_laws : RowLaws command.PolicyGetDigest policy_get_digest_row
unfolding policy_get_digest_row shape_of
policy_get_digest_laws = record {
  success = λ r q. search in_place_steps depth 12;
  order = λ r q. search policy_orders depth 16;
  plain = λ r q. search plain_steps depth 16;
  tells = λ s covers r q free. policy_secrets.policy_get_digest_tells s r q;
}

pub policy_restart_laws : RowLaws command.PolicyRestart policy_restart_row
unfolding policy_restart_row shape_of
policy_restart_laws = record {
  success = λ r q.
      ok_bind _ (first_handle q.handles) _ (λ handle.
      ok_bind _ (all_read q.parameters) _ (λ ended.
      ok_bind_is _ (policy_session r.sessions handle) _ (λ s is.
      keeping_success command.PolicyRestart r q nothing _ refl (λ old new grows. grows) (refl, refl)
      (none_drawn, λ apart. refl)
      (policy_keeps r handle s (starting s.hash) (some_is _ _ s is) (starting_sized s.hash)))));
  order = λ r q. search policy_orders depth 16;
  plain = λ r q. search plain_steps depth 16;
  tells = λ s covers r q free. policy_secrets.policy_restart_tells s r q;
}

-- If TPM2_PolicyNV is accepted, its comparison holds, or its session is a trial session.
use Rattle.std.proofs.Common.{◌≡◌, ◌⊎◌, inl, inr, ℕ, Bool, true, false, List, ◌++◌, Result, Ok, Err, refl, ap, ◌∙◌}
use Rattle.std.specs.Prelude.{not}
use Rattle.tpm_bytes.proofs.Fields.{ok_is}
use Rattle.tpm_bytes.specs.Reading.{◌>>=◌, refused_if}
use Rattle.tpm_commands.specs.declared.command_code.CommandCode.TheVariants as command
use Rattle.tpm_mac.specs.declared.algorithm.HashAlg.{HashAlg}
use Rattle.tpm_policy.specs.Assertion.{Assertion, Nv, NvParts, extended_policy, nv_arguments, nv_asserted, nv_compared}
use Rattle.tpm_policy.specs.Comparison.{compares}
use Rattle.tpm_policy.specs.State.{Policy}
use Rattle.tpm_record.specs.Record.{Record}
use Rattle.tpm_record.specs.declared.rows.target.Target.{Target}
use Rattle.tpm_record.specs.rows.Answer.{answer_of}
use Rattle.tpm_record.specs.rows.Refusals.{fault_refusal, or_refusal}
use Rattle.tpm_record.specs.rows.Target.{target_of}
use Rattle.tpm_session.specs.Sessions.{with_session_policy}
use Rattle.tpm_session.specs.declared.session.Session.{Session}
use Rattle.tpm_types_common.specs.SessionType.{is_trial}
use Rattle.tpm_types_common.specs.declared.refused.Refused.{Refused}
use Rattle.tpm_actions_policy.specs.Assertions.{assertion_in, assertion_row, body_of, policy_after, policy_session, session_handle, with_assertion}
use Rattle.tpm_actions_policy.specs.PolicyNv.{Parameters, nv_parameters, nv_parts_of}
use Rattle.tpm_policy_laws.specs.Comparing.{ComparisonHolds}

bound : {A B E : Type 0} (x : Result A E) (f : A → Result B E) (y : B) → (x >>= f) ≡ Ok y
    → (a : A) × (x ≡ Ok a) × (f a ≡ Ok y)
bound (Ok a) f y e = (a, refl, e)
bound (Err fault) f y e = absurd cc

not_refused : {E : Type 0} (b : Bool) (fault : E) (a : Unit {0}) → refused_if (not b) fault ≡ Ok a
    → b ≡ true
not_refused true fault a e = refl
not_refused false fault a e = absurd cc

was_ok : {X F : Type 0} (refusal : F → Refused) (x : Result X F) (y : X)
    → or_refusal refusal x ≡ Ok y → x ≡ Ok y
was_ok refusal (Ok x) y e = ap Ok (ok_is {E = Refused} x y e)
was_ok refusal (Err fault) y e = absurd cc

-- Either the session is a trial session, or the compared bytes exist and the comparison holds.
abbrev HoldsOf : (trial : Bool) → NvParts → Type 0
HoldsOf trial nv = (trial ≡ true)
    ⊎ ((bytes : List ℕ) × (nv.compared ≡ Ok bytes)
    × (compares nv.operation bytes nv.operand ≡ true))

comparison : (trial : Bool) (nv : NvParts) → nv_compared trial nv ≡ Ok tt → HoldsOf trial nv
comparison true nv e = inl refl
comparison false nv e =
    let read = bound nv.compared _ tt e in
    inr (read.0, read.1, not_refused (compares nv.operation read.0 nv.operand) _ tt read.2)

asserted_holds : (hash : HashAlg) (trial : Bool) (nv : NvParts) (before after : Policy)
    → nv_asserted hash trial nv before ≡ Ok after → HoldsOf trial nv
unfolding nv_asserted
asserted_holds hash trial nv before after e =
    let passed = bound (nv_compared trial nv)
    (λ compared. Ok (extended_policy hash command.PolicyNv (nv_arguments hash nv ++ nv.name)
    before)) after e in
    comparison trial nv passed.1

policy_holds : (r : Record) (target : Target) (asked : Parameters) (assertion : Session → Assertion)
    (s : Session) (after : Policy)
    → (λ (x : Session). Nv (nv_parts_of r target asked)) ≡ assertion
    → policy_after assertion s ≡ Ok after
    → HoldsOf (is_trial s.kind) (nv_parts_of r target asked)
policy_holds r target asked assertion s after is e =
    asserted_holds s.hash (is_trial s.kind) (nv_parts_of r target asked) s.policy after
    (was_ok fault_refusal _ after (ap (λ (make : Session → Assertion). policy_after make s) is ∙ e))

pub comparison_holds : ComparisonHolds
unfolding assertion_row
comparison_holds r q s e =
    let handle = bound (session_handle command.PolicyNv q.handles)
    (λ handle. assertion_in command.PolicyNv r q
    >>= (λ assertion. with_assertion r.sessions handle assertion
    >>= (λ sessions.
    Ok (record {
      answer = answer_of (body_of command.PolicyNv);
      after =
          record r { sessions = sessions };
    })))) s e in
    let assertion = bound (assertion_in command.PolicyNv r q)
    (λ assertion. with_assertion r.sessions handle.0 assertion
    >>= (λ sessions.
    Ok (record {
      answer = answer_of (body_of command.PolicyNv);
      after =
          record r { sessions = sessions };
    }))) s handle.2 in
    let sessions = bound (with_assertion r.sessions handle.0 assertion.0)
    (λ sessions.
    Ok (record {
      answer = answer_of (body_of command.PolicyNv);
      after =
          record r { sessions = sessions };
    })) s assertion.2 in
    let target =
    bound (target_of r q) (λ target. nv_parameters q.parameters
    >>= (λ p. Ok (λ x. Nv (nv_parts_of r target p)))) assertion.0 assertion.1 in
    let asked = bound (nv_parameters q.parameters) (λ p. Ok (λ x. Nv (nv_parts_of r target.0 p)))
    assertion.0 target.2 in
    let session = bound (policy_session r.sessions handle.0)
    (λ x. policy_after assertion.0 x
    >>= (λ policy. Ok (with_session_policy r.sessions handle.0 policy))) sessions.0
    sessions.1 in
    let policy = bound (policy_after assertion.0 session.0)
    (λ policy. Ok (with_session_policy r.sessions handle.0 policy)) sessions.0 session.2 in
    record {
      handle = handle.0;
      third = handle.1;
      session = session.0;
      lives = session.1;
      target = target.0;
      index = target.1;
      parameters = asked.0;
      asked = asked.1;
      holds = policy_holds r target.0 asked.0 assertion.0 session.0 policy.0
          (ok_is {E = Refused} (λ (x : Session). Nv (nv_parts_of r target.0 asked.0)) assertion.0
          asked.2) policy.1;
    }

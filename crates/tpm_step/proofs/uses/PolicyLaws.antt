-- What policies with a single assertion require when their entity is used.
use Rattle.std.proofs.Common.{◌≡◌, ℕ, Bool, false, List, [], ◌∷◌, Option, Some, None, ap, sym, subst, ◌∙◌}
use Rattle.std.specs.Prelude.{IfSome}
use Rattle.std.specs.List.{AllByRecursion, list_any}
use Rattle.tpm_mac.specs.declared.algorithm.HashAlg.{HashAlg}
use Rattle.tpm_policy.specs.Assertion.{Assertion, CommandCode, NvWritten, Pcr, PcrParts}
use Rattle.tpm_policy.specs.Use.{EntityParts}
use Rattle.tpm_types_common.specs.SessionType.{is_trial}
use Rattle.tpm_types_common.specs.declared.session_type.SessionType.{SessionType}
use Rattle.tpm_types_common.specs.declared.session_type.SessionType.TheVariants as type
use Rattle.tpm_commands.specs.CommandCode.{code_number}
use Rattle.tpm_policy_meaning.specs.Asserted.{evaluated_policy}
use Rattle.tpm_step.specs.uses.Grounds.{IsPolicyOf, policy_at, written_at}
use Rattle.tpm_step.specs.uses.PolicyLaws.{HasPolicyOf, KeepsQuietValues, UsesItsCommand, UsesPcrsAsTheyAre, pcrs_as_in, UsesAsWritten}
use Rattle.tpm_step.specs.uses.QuietPcrs.{HoldsOf, is_pcr}
use Rattle.tpm_step.specs.history.Sessions.{LiveSession, policy_in}
use Rattle.tpm_step.proofs.uses.QuietValues.{quiet_since}

-- if a session meets an entity's authPolicy, the authPolicy is the digest of the session's
-- assertions
its_assertions : (s : LiveSession) (found : Option EntityParts) (assertions : List Assertion)
    → s.kind ≡ type.Policy → s.assertions ≡ assertions → IsPolicyOf s found
    → HasPolicyOf s.hash assertions found
its_assertions s None assertions kind are is = is
its_assertions s (Some entity) assertions kind are is =
    sym is.1
    ∙ ap (λ (k : SessionType). (evaluated_policy s.hash (is_trial k) s.assertions).digest) kind
    ∙ ap (λ (l : List Assertion). (evaluated_policy s.hash false l).digest) are

same_digest : (hash : HashAlg) (parts : PcrParts) (other : PcrParts) (found : Option EntityParts)
    → parts.selection ≡ other.selection → parts.digest ≡ other.digest
    → HasPolicyOf hash (Pcr parts ∷ []) found → HasPolicyOf hash (Pcr other ∷ []) found
same_digest hash parts other None selection digest is = is
same_digest hash parts other (Some entity) selection digest is =
    is
    ∙ ap (λ (text : List ℕ).
    (evaluated_policy hash false (Pcr (record parts { selection = text }) ∷ [])).digest)
    selection
    ∙ ap (λ (bytes : List ℕ).
    (evaluated_policy hash false
    (Pcr (record parts { selection = other.selection; digest = bytes }) ∷ [])).digest)
    digest

pub pcrs_as_they_are : UsesPcrsAsTheyAre
pcrs_as_they_are history c place e s parts meets kind are =
    let holds = meets.pcrs (ap (λ (l : List Assertion). list_any is_pcr l) are) in
    let (selection, is, digest) =
    (subst (λ (l : List Assertion). AllByRecursion (HoldsOf history s.hash) l) are
    holds.hold).0 in (
      selection,
      is,
      same_digest s.hash parts (pcrs_as_in history s.hash selection)
          (policy_at c place) is digest
          (its_assertions s (policy_at c place) (Pcr parts ∷ []) kind are meets.policy),
    )

pub its_command : UsesItsCommand
its_command history c place e s profile number meets kind are =
    let recorded : (policy_in s).command ≡ Some number =
    ap (λ (l : List Assertion). (evaluated_policy s.hash (is_trial s.kind) l).command) are in
    let same : number ≡ code_number c.command.code =
    subst (λ (x : Option ℕ). IfSome x (λ n. n ≡ code_number c.command.code)) recorded
    meets.command in
    subst (λ (n : ℕ). HasPolicyOf s.hash (CommandCode profile n ∷ []) (policy_at c place)) same
    (its_assertions s (policy_at c place) (CommandCode profile number ∷ []) kind are meets.policy)

pub as_written : UsesAsWritten
as_written history c place e s is_written meets kind are =
    let recorded : (policy_in s).nv_written ≡ Some is_written =
    ap (λ (l : List Assertion). (evaluated_policy s.hash (is_trial s.kind) l).nv_written) are in (
      subst (λ (x : Option Bool). IfSome x (λ b. written_at c place ≡ Some b)) recorded
          meets.written,
      its_assertions s (policy_at c place) (NvWritten is_written ∷ []) kind are meets.policy,
    )

pub quiet_values : KeepsQuietValues
quiet_values history handle quiet bank pcr below = quiet_since handle history quiet bank pcr below

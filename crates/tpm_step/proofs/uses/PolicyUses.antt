-- Unless the hash is broken, each use of an entity by a policy session meets every policy whose
-- digest is the entity's authPolicy.
use Rattle.std.proofs.Common.{◌≡◌, ◌⊎◌, ℕ, Bool, true, false, cond, List, [], ◌∷◌, Option, Some, None, IfSome, IfOk, refl, ap, sym, subst, ◌∙◌, inl, inr}
use Rattle.std.proofs.lemmas.Option.{same_Some}
use Rattle.std.specs.Int.{bit_at, w8, w32}
use Rattle.std.specs.List.{AllByRecursion, list_any}
use Rattle.std.specs.Prelude.{◌||◌}
use Rattle.tpm_bytes.specs.Reading.{number_at, or_fault}
use Rattle.tpm_mac.specs.declared.algorithm.HashAlg.{HashAlg}
use Rattle.tpm_policy.specs.Assertion as assertion
use Rattle.tpm_policy.specs.Assertion.{Assertion, PcrParts}
use Rattle.tpm_policy.specs.State.{Policy}
use Rattle.tpm_policy.specs.Use.{EntityParts}
use Rattle.tpm_policy.specs.declared.state.Demand.{Demand}
use Rattle.tpm_policy.specs.declared.state.Demand.TheVariants as demand
use Rattle.tpm_types_common.specs.Buffer.{buffer_at}
use Rattle.tpm_types_common.specs.DigestList.{digest_list_at}
use Rattle.tpm_types_common.specs.Rc.{plain}
use Rattle.tpm_types_common.specs.SessionType.{is_trial}
use Rattle.tpm_types_common.specs.YesNo.{yes_no_at}
use Rattle.tpm_types_common.specs.declared.handle.Handle.{Handle}
use Rattle.tpm_types_common.specs.declared.rc.ResponseCode.TheVariants as code
use Rattle.tpm_types_common.specs.declared.session_type.SessionType.{SessionType}
use Rattle.tpm_types_common.specs.declared.session_type.SessionType.TheVariants as type
use Rattle.tpm_types_command.specs.AuthEntry.{Entry}
use Rattle.tpm_commands.specs.CommandCode.{code_number}
use Rattle.tpm_commands.specs.declared.command_code.CommandCode.{CommandCode as Code}
use Rattle.tpm_commands.specs.declared.command_code.CommandCode.TheVariants as command
use Rattle.tpm_policy_meaning.specs.Asserted.{AreAccepted, IsAmong, IsAsserted, Says, evaluated_policy, session_digest}
use Rattle.tpm_policy_meaning.specs.Expression.{PolicyAssertion, PolicyPcr, PolicyAuthValue, PolicyPassword, PolicyCommandCode, PolicyLocality, PolicyCpHash, PolicyNvWritten, PolicySecret, PolicyNv}
use Rattle.tpm_policy_meaning.specs.Expression.{PolicyExpression, Nothing, Then, PolicyOr, PolicyBranches, NoBranch, Branch}
use Rattle.tpm_policy_meaning.specs.Meaning.{BreaksHash, IsMet, IsOneMet, IsPolicyExpression}
use Rattle.tpm_policy_meaning.specs.PolicyDigest.{policy_digest}
use Rattle.tpm_policy_meaning.proofs.Meaning.{digest_means}
use Rattle.tpm_policy_meaning.proofs.Sessions.{demands_value}
use Rattle.tpm_auth.specs.SessionGrant.{has_value_in_key, is_password_demand}
use Rattle.tpm_record.specs.rows.Rows.{only}
use Rattle.tpm_actions_policy.specs.PolicyNv.{nv_parameters}
use Rattle.tpm_actions_policy.specs.PolicyPcr.{pcr_parameters}
use Rattle.tpm_actions_policy.specs.PolicySecret.{secret_parameters}
use Rattle.tpm_step.proofs.rows.Binding.{ok_at, ok_bind}
use Rattle.tpm_step.specs.uses.AcceptedAssertions.{AllAskForTheirHandles, AllFind, SessionsFind}
use Rattle.tpm_step.specs.uses.AssertedBy.{IsAssertedBy, ShowsSecret}
use Rattle.tpm_step.specs.history.AuthValues.{auth_of}
use Rattle.tpm_step.specs.uses.EntryHmacs.{AllShowHmacs, cp_hash_in, is_bound_to, used_in}
use Rattle.tpm_step.specs.uses.Grounds.{AllHaveGrounds, ByHmac, ByPassword, ByPolicy, Ground, HasDemanded, IsPolicyOf, MeetsPolicy, UsesHaveGrounds, policy_at, written_at}
use Rattle.tpm_step.specs.history.History.{AcceptedCommand, History}
use Rattle.tpm_step.specs.history.Policies.{assertion_by}
use Rattle.tpm_step.specs.uses.PolicyUses.{HasAuthPolicy, IsMetBy, MeetsPolicies, PolicyUse, ShowsAuthValue, UsesMeetPolicies}
use Rattle.tpm_step.specs.uses.QuietPcrs.{HoldsOf, is_pcr}
use Rattle.tpm_step.specs.history.Sessions.{policy_in}
use Rattle.tpm_step.specs.history.View.{name_in}
use Rattle.tpm_step.proofs.uses.AssertedBy.{HasOrigin, first_authorized, have_origins}
use Rattle.tpm_step.proofs.uses.RecordedAssertions.{command_recorded, cp_hash_recorded, locality_allowed, written_recorded}
use Rattle.tpm_step.proofs.uses.Selections.{digest_by_text}

-- ---- the assertions of a policy along its branches

mutual
  met_so : (P Q : PolicyAssertion → Type 0) → ((one : PolicyAssertion) → P one → Q one)
      → (policy : PolicyExpression) → IsMet P policy → IsMet Q policy
  met_so P Q so Nothing met = tt
  met_so P Q so (Then before one) met = (met_so P Q so before met.0, so one met.1)
  met_so P Q so (PolicyOr branches) met = one_met_so P Q so branches met

  one_met_so : (P Q : PolicyAssertion → Type 0) → ((one : PolicyAssertion) → P one → Q one)
      → (branches : PolicyBranches) → IsOneMet P branches → IsOneMet Q branches
  one_met_so P Q so NoBranch met = absurd met
  one_met_so P Q so (Branch policy branches) (inl met) = inl (met_so P Q so policy met)
  one_met_so P Q so (Branch policy branches) (inr met) = inr (one_met_so P Q so branches met)

-- ---- the conditions of a session's assertions

are_accepted : (hash : HashAlg) (assertions : List Assertion) → AllFind hash assertions
    → AreAccepted hash assertions
are_accepted hash [] find = tt
are_accepted hash (assertion.Or digests ∷ assertions) find =
    (find.0.1, find.0.0, are_accepted hash assertions find.1)
are_accepted hash (assertion.Pcr parts ∷ assertions) find =
    (find.0.1, tt, are_accepted hash assertions find.1)
are_accepted hash (one ∷ assertions) find = (find.0.1, tt, are_accepted hash assertions find.1)

any_pcr : (parts : PcrParts) (assertions : List Assertion)
    → IsAmong (assertion.Pcr parts) assertions → list_any is_pcr assertions ≡ true
any_pcr parts [] among = absurd among
any_pcr parts (one ∷ assertions) (inl same) =
    ap (λ (b : Assertion). is_pcr b || list_any is_pcr assertions) (sym same)
any_pcr parts (one ∷ assertions) (inr among) = by (is_pcr one) (any_pcr parts assertions among)
  where
    by : (b : Bool) → list_any is_pcr assertions ≡ true → (b || list_any is_pcr assertions) ≡ true
    by true is = refl
    by false is = is

all_at : (P : Assertion → Type 0) (one : Assertion) (assertions : List Assertion)
    → AllByRecursion P assertions → IsAmong one assertions → P one
all_at P one [] all among = absurd among
all_at P one (other ∷ assertions) all (inl same) = subst P (sym same) all.0
all_at P one (other ∷ assertions) all (inr among) = all_at P one assertions all.1 among

-- ---- the command of each assertion

-- If the assertion is from TPM2_PolicySecret or TPM2_PolicyNV, the code is that command's code. The
-- assertion contains the Name of the first handle (TPM2_PolicySecret) or the second handle
-- (TPM2_PolicyNV) of the command.
abbrev IsOf : Code → AcceptedCommand → Assertion → Type 0
IsOf code c (assertion.Secret parts) = (code ≡ command.PolicySecret)
    × (name_in c.views 0 ≡ parts.name)
IsOf code c (assertion.Nv parts) = (code ≡ command.PolicyNv) × (name_in c.views 1 ≡ parts.name)
IsOf code c _ = Unit {0}

asserted_of : (code : Code) (c : AcceptedCommand) (history : History) (hash : HashAlg)
    (nonce : List ℕ) → IfOk (assertion_by code c history hash nonce) (IsOf code c)
asserted_of command.PolicyPcr c history hash nonce =
    ok_bind _ (pcr_parameters c.request.parameters) _ (λ p. tt)
asserted_of command.PolicyOr c history hash nonce =
    ok_bind _ (only (digest_list_at c.request.parameters)) _ (λ p. tt)
asserted_of command.PolicyAuthValue c history hash nonce = tt
asserted_of command.PolicyPassword c history hash nonce = tt
asserted_of command.PolicyCommandCode c history hash nonce =
    ok_bind _ (only (or_fault (number_at w32 c.request.parameters) (plain code.Insufficient))) _
    (λ p. tt)
asserted_of command.PolicyCpHash c history hash nonce =
    ok_bind _ (only (buffer_at 32 c.request.parameters)) _ (λ p. tt)
asserted_of command.PolicyNvWritten c history hash nonce =
    ok_bind _ (only (yes_no_at c.request.parameters)) _ (λ p. tt)
asserted_of command.PolicyLocality c history hash nonce =
    ok_bind _ (only (or_fault (number_at w8 c.request.parameters) (plain code.Insufficient))) _
    (λ p. tt)
asserted_of command.PolicySecret c history hash nonce =
    ok_bind _ (secret_parameters c.request.parameters) _ (λ p. (refl, refl))
asserted_of command.PolicyNv c history hash nonce =
    ok_bind _ (nv_parameters c.request.parameters) _ (λ p. (refl, refl))
asserted_of _ c history hash nonce = tt

of_command : (history : History) (handle : Handle) (one : Assertion)
    (by : IsAssertedBy history handle one) → IsOf by.command.command.code by.command one
of_command history handle one by =
    ok_at (IsOf by.command.command.code by.command)
    (assertion_by by.command.command.code by.command by.before by.session.hash
    by.session.nonce_tpm) one
    (asserted_of by.command.command.code by.command by.before by.session.hash by.session.nonce_tpm)
    by.asserts

-- ---- one use of an entity, authorized by a policy session

module _ (u : PolicyUse) (used : used_in u.command.command u.place ≡ Some u.handle)
    (kind : u.session.kind ≡ type.Policy)
    (meets : MeetsPolicy u.history u.command u.place u.entry u.session)
    (demanded : HasDemanded (is_password_demand (policy_in u.session).demand) u.history u.command
    u.place u.entry u.session) (find : AllFind u.session.hash u.session.assertions)
    (origins : (one : Assertion) → IsAmong one u.session.assertions
    → HasOrigin u.history u.entry.session one) where
  abbrev hash : HashAlg
  hash = u.session.hash

  abbrev assertions : List Assertion
  assertions = u.session.assertions

  policy_is : policy_in u.session ≡ evaluated_policy hash false assertions
  policy_is = ap (λ (k : SessionType). evaluated_policy hash (is_trial k) assertions) kind

  -- the authorization value in the HMAC key, given what the policy requires in the entry (`Demand`)
  abbrev value_by : SessionType → Demand → List ℕ
  value_by k d =
      cond
      (has_value_in_key k
      (is_bound_to u.session (name_in u.command.views u.place) (auth_of u.history u.handle)) d)
      (auth_of u.history u.handle) []

  shows_by : (d : Demand) → (policy_in u.session).demand ≡ d
      → (d ≡ demand.AuthValue) ⊎ (d ≡ demand.Password)
      → HasDemanded (is_password_demand d) u.history u.command u.place u.entry u.session
      → ShowsAuthValue u
  shows_by demand.None is (inl never) has = absurd cc
  shows_by demand.None is (inr never) has = absurd cc
  shows_by demand.Password is either has = inl has
  shows_by demand.AuthValue is either has =
      inr (
        has,
        ap (λ (k : SessionType). value_by k (policy_in u.session).demand) kind
            ∙ ap (value_by type.Policy) is,
      )

  shows : IsAsserted assertions PolicyAuthValue ⊎ IsAsserted assertions PolicyPassword
      → ShowsAuthValue u
  shows either =
      shows_by (policy_in u.session).demand refl
      (subst (λ (p : Policy). (p.demand ≡ demand.AuthValue) ⊎ (p.demand ≡ demand.Password))
      (sym policy_is) (demands_value hash false assertions either))
      demanded

  secret_shown : (name reference : List ℕ) (one : Assertion)
      → Says one (PolicySecret name reference) → HasOrigin u.history u.entry.session one
      → ShowsSecret u.history u.entry.session name reference
  secret_shown name reference (assertion.Secret parts) says origin =
      let by = origin.asserted in
      let is = of_command u.history u.entry.session (assertion.Secret parts) by in
      record {
        parts = parts;
        asserted = by;
        is_secret = is.0;
        entity = is.1 ∙ says.0;
        authorized = first_authorized by.before by.command u.entry.session (inl is.0) by.names
            origin.asks origin.grounds;
        for_reference = says.1;
      }
  secret_shown name reference one says origin = absurd says

  -- the use of the entity meets an assertion of a policy expression, if the session has this
  -- assertion
  met_by : (written : PolicyAssertion) (one : Assertion) → IsAmong one assertions → Says one written
      → IsMetBy u written
  met_by (PolicyPcr selection digest) (assertion.Pcr parts) among says =
      let holds = meets.pcrs (any_pcr parts assertions among) in
      let (banks, text, found) =
      all_at (HoldsOf u.history hash) (assertion.Pcr parts) assertions holds.hold among in
      record {
        quiet = holds.quiet;
        now =
            digest_by_text u.history hash selection banks (sym says.0 ∙ text) ∙ sym found ∙ says.1;
      }
  met_by PolicyAuthValue one among says = shows (inl (one, among, says))
  met_by PolicyPassword one among says = shows (inr (one, among, says))
  met_by (PolicyCommandCode number) (assertion.CommandCode profile asserted) among says =
      let recorded : (policy_in u.session).command ≡ Some asserted =
      ap (λ (p : Policy). p.command) policy_is
      ∙ command_recorded hash profile asserted assertions find among in
      sym (subst (λ (x : Option ℕ). IfSome x (λ n. n ≡ code_number u.command.command.code)) recorded
      meets.command) ∙ says
  met_by (PolicyLocality localities) (assertion.Locality asserted) among says =
      subst (λ (l : ℕ). bit_at l u.command.request.locality ≡ 1) says
      (locality_allowed hash u.command.request.locality asserted assertions among
      (ap (λ (p : Policy). bit_at p.localities u.command.request.locality) (sym policy_is)
      ∙ meets.locality))
  met_by (PolicyCpHash cp_hash) (assertion.CpHash asserted) among says =
      let recorded : (policy_in u.session).cp_hash ≡ Some asserted =
      ap (λ (p : Policy). p.cp_hash) policy_is
      ∙ cp_hash_recorded hash asserted assertions find among in
      sym (subst (λ (x : Option (List ℕ)). IfSome x (λ h. h ≡ cp_hash_in u.command hash)) recorded
      meets.cp_hash) ∙ says
  met_by (PolicyNvWritten is_written) (assertion.NvWritten asserted) among says =
      let recorded : (policy_in u.session).nv_written ≡ Some asserted =
      ap (λ (p : Policy). p.nv_written) policy_is
      ∙ written_recorded hash asserted assertions find among in
      subst (λ (x : Option Bool). IfSome x (λ w. written_at u.command u.place ≡ Some w)) recorded
      meets.written ∙ ap (λ (w : Bool). Some w) says
  met_by (PolicySecret name reference) one among says =
      secret_shown name reference one says (origins one among)
  met_by (PolicyNv name operand offset operation) (assertion.Nv parts) among says =
      let origin = origins (assertion.Nv parts) among in
      let by = origin.asserted in
      let is = of_command u.history u.entry.session (assertion.Nv parts) by in
      record {
        parts = parts;
        asserted = by;
        is_nv = is.0;
        index = is.1 ∙ says.0;
        authorized = first_authorized by.before by.command u.entry.session (inr is.0) by.names
            origin.asks origin.grounds;
        with_operand = says.1;
        from_offset = says.2;
        by_operation = says.3;
      }
  met_by written one among says = absurd says

  its_policy : (found : Option EntityParts) (entity : EntityParts) → IsPolicyOf u.session found
      → found ≡ Some entity → (hash ≡ entity.hash)
      × (session_digest hash assertions ≡ entity.digest)
  its_policy None entity its is = absurd cc
  its_policy (Some other) entity its is =
      let same = same_Some other entity is in (
        sym its.0 ∙ ap (λ (x : EntityParts). x.hash) same,
        ap (λ (p : Policy). p.digest) (sym policy_is) ∙ its.1
            ∙ ap (λ (x : EntityParts). x.digest) same,
      )

  use_meets : (name_alg : HashAlg) (policy : PolicyExpression)
      → HasAuthPolicy u.command u.place name_alg policy → IsMet (IsMetBy u) policy
      ⊎ BreaksHash name_alg policy assertions
  use_meets name_alg policy has =
      let its = its_policy (policy_at u.command u.place)
      (record { hash = name_alg; digest = policy_digest name_alg policy }) meets.policy
      has.auth_policy in
      subst (λ (h : HashAlg). IsPolicyExpression h policy
      → session_digest hash assertions ≡ policy_digest h policy → IsMet (IsMetBy u) policy
      ⊎ BreaksHash h policy assertions) its.0
      (λ is_policy same. by
      (digest_means hash policy assertions is_policy (are_accepted hash assertions find)
      same))
      has.is_policy its.1
    where
      by : IsMet (IsAsserted assertions) policy ⊎ BreaksHash hash policy assertions
          → IsMet (IsMetBy u) policy ⊎ BreaksHash hash policy assertions
      by (inl met) =
          inl (met_so (IsAsserted assertions) (IsMetBy u)
          (λ written asserted. met_by written asserted.0 asserted.1 asserted.2) policy met)
      by (inr broken) = inr broken

-- ---- all uses of a command

ground_meets : (history : History) (c : AcceptedCommand) (place : ℕ) (handle : Handle) (e : Entry)
    → SessionsFind history → AllAskForTheirHandles history → AllShowHmacs history
    → AllHaveGrounds history → used_in c.command place ≡ Some handle
    → (ground : Ground history c place e) → MeetsPolicies history c place handle e ground
ground_meets history c place handle e find asked shows grounds used (ByPassword names takes has) =
    tt
ground_meets history c place handle e find asked shows grounds used
    (ByHmac s lives kind takes has) = tt
ground_meets history c place handle e find asked shows grounds used
    (ByPolicy s lives kind meets has) =
    λ name_alg policy is. use_meets
    (record {
      history = history;
      command = c;
      place = place;
      handle = handle;
      entry =
          e;
      session = s;
    }) used kind meets has (find e.session s lives kind)
    (have_origins history shows grounds asked e.session s lives) name_alg policy is

pub uses_meet : (history : History) (c : AcceptedCommand) → SessionsFind history
    → AllAskForTheirHandles history → AllShowHmacs history → AllHaveGrounds history
    → UsesHaveGrounds history c → UsesMeetPolicies history c
uses_meet history c find asked shows grounds uses place handle used =
    let (e, given, ground) = uses place handle used in
    (e, given, ground, ground_meets history c place handle e find asked shows grounds used ground)

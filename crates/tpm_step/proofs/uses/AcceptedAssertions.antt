-- Each assertion that the history records met its condition on the policy session when the
-- assertion was accepted.
use Rattle.std.proofs.Common.{◌≡◌, ◌<◌, ◌^◌, ◌+◌, ℕ, arith, Bool, true, false, cond, List, [], ◌∷◌, length, Option, Some, None, Result, Ok, Err, IfOk, IfSome, refl, ap, sym, subst, ◌∙◌}
use Rattle.std.specs.Option.{option_map_or}
use Rattle.std.specs.Prelude.{not, nat_lt, ◌==◌, ◌&&◌}
use Rattle.std.specs.Int.{w8, w32}
use Rattle.std.specs.List.{list_any}
use Rattle.std.specs.Str.{bytes_eq}
use Rattle.std.proofs.lemmas.Bool.{ltb-false}
use Rattle.std.proofs.lemmas.Option.{same_Some}
use Rattle.tpm_bytes.specs.Reading.{◌>>=◌, number_at, or_fault, refused_if}
use Rattle.tpm_bytes.proofs.Fields.{ok_is, passed}
use Rattle.tpm_containers.specs.SortedMap.{Entries, at_key}
use Rattle.tpm_mac.proofs.DigestSize.{length-hash_of}
use Rattle.tpm_mac.specs.Digest.{digest_size}
use Rattle.tpm_mac.specs.declared.algorithm.HashAlg.{HashAlg}
use Rattle.tpm_nv.specs.Access.{index_or_fault, read_at, readable}
use Rattle.tpm_nv.specs.Index.{NvContents, NvIndex}
use Rattle.tpm_nv.specs.IsContents.{AreIndices}
use Rattle.tpm_nv.specs.declared.fault.ReadFault.{ReadFault}
use Rattle.tpm_nv.specs.declared.fault.ReadFault.TheVariants as read_fault
use Rattle.tpm_policy.specs.Assertion as assertion
use Rattle.tpm_policy.specs.Assertion.{Assertion, asserted_policy, command_code_asserted, cp_hash_asserted, is_other, is_other_hash, is_other_written, nv_asserted, nv_written_asserted, or_asserted, secret_asserted}
use Rattle.tpm_policy.specs.State.{Policy}
use Rattle.tpm_policy_meaning.proofs.Sessions.{any_among}
use Rattle.tpm_policy_meaning.specs.Asserted.{HasWidths}
use Rattle.tpm_session.specs.Sessions.{session_at}
use Rattle.tpm_session.specs.declared.session.Session.{Session}
use Rattle.tpm_types_common.specs.ActionFault.{plain_fault}
use Rattle.tpm_types_common.specs.Buffer.{buffer_at, is_given}
use Rattle.tpm_types_common.specs.DigestList.{digest_list_at}
use Rattle.tpm_types_common.specs.Rc.{plain}
use Rattle.tpm_types_common.specs.SessionType.{is_trial}
use Rattle.tpm_types_common.specs.YesNo.{yes_no_at}
use Rattle.tpm_types_common.specs.declared.action_check.ActionCheck.TheVariants as action
use Rattle.tpm_types_common.specs.declared.action_fault.ActionFault.{ActionFault}
use Rattle.tpm_types_common.specs.declared.handle.Handle.{Handle}
use Rattle.tpm_types_common.specs.declared.rc.ResponseCode.TheVariants as code
use Rattle.tpm_types_common.specs.declared.refused.Refused.{Refused}
use Rattle.tpm_commands.proofs.Codes.{code_named-number, code_number-small}
use Rattle.tpm_commands.specs.CommandCode.{code_named, code_number, is_served, serves}
use Rattle.tpm_commands.specs.declared.profile.Profile.TheVariants.{Complete}
use Rattle.tpm_commands.specs.declared.profile.Profile.{Profile}
use Rattle.tpm_commands.specs.declared.command_code.CommandCode.{CommandCode as Code}
use Rattle.tpm_commands.specs.declared.command_code.CommandCode.TheVariants as command
use Rattle.tpm_record.specs.Entity.{name_of}
use Rattle.tpm_record.specs.Record.{Record}
use Rattle.tpm_record.specs.rows.Request.{Request, first_handle}
use Rattle.tpm_record.specs.rows.Rows.{only}
use Rattle.tpm_record.specs.rows.Target.{reading_passes, target_of}
use Rattle.tpm_record.specs.declared.rows.target.Target.{Target}
use Rattle.tpm_actions_policy.specs.Assertions.{assertion_in, assertion_row, asserts, policy_after, policy_session, session_handle, with_assertion as with_device_assertion}
use Rattle.tpm_actions_policy.specs.PolicyNv.{Parameters as NvParameters, compared, nv_parameters, nv_parts_of}
use Rattle.tpm_actions_policy.specs.PolicyPcr.{pcr_parameters}
use Rattle.tpm_actions_policy.specs.PolicySecret.{Parameters as SecretParameters, secret_of, secret_parameters}
use Rattle.tpm_step.specs.step.Table.{row_of}
use Rattle.tpm_step.proofs.rows.Binding.{asked, ok_at, ok_bind, ok_bind_is, ok_then, some_is}
use Rattle.tpm_step.specs.uses.AcceptedAssertions.{Finds}
use Rattle.tpm_step.specs.history.History.{AcceptedCommand, History}
use Rattle.tpm_step.specs.history.Policies.{assertion_by}
use Rattle.tpm_step.specs.history.View.{name_in}
use Rattle.tpm_step.proofs.history.Asserted.{policy_passed}
use Rattle.tpm_step.proofs.uses.UseGrounds.{recorded_hash, recorded_is, recorded_written}

-- ---- the condition of an assertion on a policy

both_hold : (b c : Bool) → (b && c) ≡ false → b ≡ true → c ≡ false
both_hold true c none holds = none
both_hold false c none holds = absurd cc

-- The number of a supported command fits in 32 bits.
served_small : (profile : Profile) (number : ℕ) → is_served profile number ≡ true
    → number < 2 ^ 32
served_small profile number served = by (code_named number) (code_named-number number) served
  where
    by : (found : Option Code) → IfSome found (λ c. code_number c ≡ number)
        → option_map_or (serves profile) found false ≡ true → number < 2 ^ 32
    by (Some c) is served = subst (λ (n : ℕ). n < 2 ^ 32) is (code_number-small c)
    by None is served = absurd cc

pub found_by : (hash : HashAlg) (one : Assertion) (p : Policy)
    → IfOk (asserted_policy hash false one p) (λ new. Finds one p)
unfolding or_asserted command_code_asserted cp_hash_asserted nv_written_asserted secret_asserted
    nv_asserted
found_by hash (assertion.Or digests) p =
    ok_bind_is _ (refused_if (not (list_any (λ digest. bytes_eq digest p.digest) digests)) _) _
    (λ u passes. any_among p.digest digests (asked _ _ u passes))
found_by hash (assertion.CommandCode profile number) p =
    ok_bind_is _ (refused_if (is_other p.command number) _) _
    (λ u passes. ok_bind_is _ (refused_if (not (is_served profile number)) _) _
    (λ v served. (
      recorded_is p.command number (passed _ _ u passes),
      served_small profile number (asked _ _ v served),
    )))
found_by hash (assertion.CpHash cp_hash) p =
    ok_bind _ (refused_if (not (length cp_hash == digest_size hash)) _) _
    (λ u. ok_bind_is _ (refused_if (is_other_hash p.cp_hash cp_hash) _) _
    (λ v passes. recorded_hash p.cp_hash cp_hash (passed _ _ v passes)))
found_by hash (assertion.NvWritten is_written) p =
    ok_bind_is _ (refused_if (is_other_written p.nv_written (Some is_written)) _) _
    (λ u passes. recorded_written p.nv_written (Some is_written) (passed _ _ u passes))
found_by hash (assertion.Secret parts) p =
    ok_bind _ (refused_if (not (parts.expiration == 0)) _) _ (λ u.
    ok_bind _ (refused_if (is_given parts.cp_hash && not (length parts.cp_hash == digest_size hash))
    _) _ (λ v.
    ok_bind _ (refused_if (is_given parts.nonce && not (bytes_eq parts.nonce parts.nonce_tpm)) _) _
    (λ w.
    ok_bind_is _ (refused_if (is_given parts.cp_hash && is_other_hash p.cp_hash parts.cp_hash) _) _
    (λ x passes. λ given.
    recorded_hash p.cp_hash parts.cp_hash
    (both_hold (is_given parts.cp_hash) (is_other_hash p.cp_hash parts.cp_hash)
    (passed _ _ x passes) given)))))
found_by hash (assertion.Nv parts) p = by parts.compared refl
  where
    by : (x : Result (List ℕ) ActionFault) → parts.compared ≡ x
        → IfOk (asserted_policy hash false (assertion.Nv parts) p)
        (λ new. (bytes : List ℕ) × (parts.compared ≡ Ok bytes))
    by (Ok bytes) is = every (asserted_policy hash false (assertion.Nv parts) p) (bytes, is)
      where
        every : (y : Result Policy ActionFault) → (bytes : List ℕ) × (parts.compared ≡ Ok bytes)
            → IfOk y (λ new. (bytes : List ℕ) × (parts.compared ≡ Ok bytes))
        every (Ok new) it = it
        every (Err e) it = tt
    by (Err fault) is = rw is tt
found_by hash one p = by (asserted_policy hash false one p)
  where
    by : (x : Result Policy ActionFault) → IfOk x (λ new. Unit {0})
    by (Ok new) = tt
    by (Err e) = tt

-- ---- an offset has 16 bits

index_small : (es : Entries NvIndex) (key : ℕ) (index : NvIndex) → AreIndices es
    → at_key es key ≡ Some index → index.public.data_size < 2 ^ 16
index_small [] key index are is = absurd cc
index_small (e ∷ es) key index are is = by (e.0 == key) is (index_small es key index are.1)
  where
    by : (here : Bool) → cond here (Some e.1) (at_key es key) ≡ Some index
        → (at_key es key ≡ Some index → index.public.data_size < 2 ^ 16)
        → index.public.data_size < 2 ^ 16
    by true is later = subst (λ (x : NvIndex). x.public.data_size < 2 ^ 16) (same_Some e.1 index is)
        are.0.public.data_size
    by false is later = later is

read_small : (contents : NvContents) (handle : Handle) (offset size : ℕ)
    → AreIndices contents.indices
    → IfOk (read_at contents handle offset size) (λ bytes. offset < 2 ^ 16)
unfolding read_at
read_small contents handle offset size are =
    ok_bind_is _ (index_or_fault {F = ReadFault} contents handle read_fault.Undefined) _
    (λ index found.
    ok_bind _ (readable index) _ (λ u.
    ok_bind_is _ (refused_if (nat_lt index.public.data_size (offset + size)) read_fault.PastData) _
    (λ v inside.
    let small : index.public.data_size < 2 ^ 16 =
    index_small contents.indices handle.number index are (some_is _ _ index found) in
    omega (arith, small, ltb-false index.public.data_size (offset + size) (passed _ _ v inside)))))

faulted : (offset : ℕ) (fault : ActionFault) (x : Result (List ℕ) ReadFault)
    → IfOk x (λ bytes. offset < 2 ^ 16) → IfOk (or_fault x fault) (λ bytes. offset < 2 ^ 16)
faulted offset fault (Ok bytes) small = small
faulted offset fault (Err e) small = tt

offset_small : (r : Record) (target : Target) (p : NvParameters) → AreIndices r.nv.indices
    → IfOk (compared r target p) (λ bytes. p.offset < 2 ^ 16)
offset_small r target p are =
    ok_bind _ (reading_passes target) _ (λ u.
    faulted p.offset (plain_fault action.Fourth code.NvRange)
    (read_at r.nv target.handle p.offset (length p.operand))
    (read_small r.nv target.handle p.offset (length p.operand) are))

-- ---- the history's version of an assertion

module _ (r : Record) (c : AcceptedCommand) (history : History)
    (are : AreIndices r.nv.indices) where
  abbrev q : Request
  q = c.request

  -- The assertion that the history determines for the command meets its condition whenever the
  -- device's assertion does.
  abbrev Agrees : Code → (Session → Assertion) → Type 0
  Agrees code made =
      (s : Session) (told : Assertion) → assertion_by code c history s.hash s.nonce_tpm ≡ Ok told
      → (p : Policy) → Finds (made s) p → Finds told p × HasWidths s.hash told

  by_reading : (X : Type 0) (code : Code) (read : Result X Refused)
      (make tell : Session → X → Assertion)
      → ((s : Session) → assertion_by code c history s.hash s.nonce_tpm
      ≡ (read >>= λ x. Ok (tell s x)))
      → ((s : Session) (x : X) (p : Policy) → Finds (make s x) p
      → Finds (tell s x) p × HasWidths s.hash (tell s x))
      → IfOk (read >>= λ x. Ok (λ (s : Session). make s x)) (Agrees code)
  by_reading X code read make tell tells same =
      ok_bind_is _ read _ (λ x found. λ s told is p holds.
      let one : tell s x ≡ told =
      ok_is {E = Refused} (tell s x) told
      (sym
      (tells s ∙ ap (λ (y : Result X Refused). y >>= λ x. let it : Result Assertion Refused =
      Ok (tell s x) in it) found) ∙ is) in
      subst (λ (b : Assertion). Finds b p × HasWidths s.hash b) one (same s x p holds))

  -- The assertion that the history determines for this command meets its condition on every policy.
  abbrev TellsPlainly : Code → Type 0
  TellsPlainly code = (s : Session)
      → IfOk (assertion_by code c history s.hash s.nonce_tpm)
      (λ told. (p : Policy) → Finds told p × HasWidths s.hash told)

  plainly : (code : Code) → TellsPlainly code → (x : Result (Session → Assertion) Refused)
      → IfOk x (Agrees code)
  plainly code tells (Err e) = tt
  plainly code tells (Ok made) =
      λ s told is p holds. ok_at (λ told. (p : Policy) → Finds told p × HasWidths s.hash told)
      (assertion_by code c history s.hash s.nonce_tpm) told (tells s) is p

  abbrev nv_told : NvParameters → Assertion
  nv_told x =
      assertion.Nv
      (record {
        name = name_in c.views 1;
        operand = x.operand;
        offset = x.offset;
        operation =
            x.operation;
        compared = Ok [];
      })

  nv_same : (target : Target) (s : Session) (x : NvParameters) (p : Policy)
      → Finds (assertion.Nv (nv_parts_of r target x)) p
      → Finds (nv_told x) p × HasWidths s.hash (nv_told x)
  nv_same target s x p (bytes, is) = (
    ([], refl),
    ok_at (λ bytes. x.offset < 2 ^ 16) (compared r target x) bytes
        (offset_small r target x are) is,
  )

  agrees : (code : Code) → IfOk (assertion_in code r q) (Agrees code)
  agrees command.PolicyPcr =
      plainly command.PolicyPcr
      (λ s. ok_bind _ (pcr_parameters q.parameters) _ (λ x. λ p. (tt, length-hash_of s.hash _)))
      (assertion_in command.PolicyPcr r q)
  agrees command.PolicyOr =
      by_reading (List (List ℕ)) command.PolicyOr (only (digest_list_at q.parameters))
      (λ s x. assertion.Or x) (λ s x. assertion.Or x) (λ s. refl) (λ s x p holds. (holds, tt))
  agrees command.PolicyAuthValue =
      plainly command.PolicyAuthValue (λ s. λ p. (tt, tt))
      (assertion_in command.PolicyAuthValue r q)
  agrees command.PolicyPassword =
      plainly command.PolicyPassword (λ s. λ p. (tt, tt)) (assertion_in command.PolicyPassword r q)
  agrees command.PolicyCommandCode =
      by_reading ℕ command.PolicyCommandCode
      (only (or_fault (number_at w32 q.parameters) (plain code.Insufficient)))
      (λ s x. assertion.CommandCode r.fixed.profile x) (λ s x. assertion.CommandCode Complete x)
      (λ s. refl)
      (λ s x p holds. (holds, holds.1))
  agrees command.PolicyCpHash =
      by_reading (List ℕ) command.PolicyCpHash (only (buffer_at 32 q.parameters))
      (λ s x. assertion.CpHash x) (λ s x. assertion.CpHash x) (λ s. refl)
      (λ s x p holds. (holds, tt))
  agrees command.PolicyNvWritten =
      by_reading Bool command.PolicyNvWritten (only (yes_no_at q.parameters))
      (λ s x. assertion.NvWritten x) (λ s x. assertion.NvWritten x) (λ s. refl)
      (λ s x p holds. (holds, tt))
  agrees command.PolicyLocality =
      plainly command.PolicyLocality
      (λ s. ok_bind _ (only (or_fault (number_at w8 q.parameters) (plain code.Insufficient))) _
      (λ x. λ p. (tt, tt))) (assertion_in command.PolicyLocality r q)
  agrees command.PolicySecret =
      ok_bind _ (first_handle q.handles) _ (λ entity.
      by_reading SecretParameters command.PolicySecret (secret_parameters q.parameters)
      (λ s x. assertion.Secret (secret_of x (name_of r entity) s))
      (λ s x. assertion.Secret (secret_of x (name_in c.views 0) s)) (λ s. refl)
      (λ s x p holds. (holds, tt)))
  agrees command.PolicyNv =
      ok_bind _ (target_of r q) _ (λ target.
      by_reading NvParameters command.PolicyNv (nv_parameters q.parameters)
      (λ s x. assertion.Nv (nv_parts_of r target x)) (λ s x. nv_told x) (λ s. refl)
      (λ s x p holds. nv_same target s x p holds))
  agrees _ = tt

  -- ---- the assertion of an accepted command

  -- Suppose that an accepted command makes an assertion on a policy session that is not a trial
  -- session. Then the assertion that the history determines meets its condition on the session's
  -- policy, and its values have the right sizes.
  abbrev pub FindsItsOwn : Code → Type 0
  FindsItsOwn code =
      (handle : Handle) (s : Session) (told : Assertion) → session_handle code q.handles ≡ Ok handle
      → session_at r.sessions handle ≡ Some s → is_trial s.kind ≡ false
      → assertion_by code c history s.hash s.nonce_tpm ≡ Ok told
      → Finds told s.policy × HasWidths s.hash told

  session_finds : (code : Code) (handle : Handle) (s : Session) (policy : Policy)
      (made : Session → Assertion) → session_handle code q.handles ≡ Ok handle
      → policy_session r.sessions handle ≡ Ok s → policy_after made s ≡ Ok policy → Agrees code made
      → FindsItsOwn code
  session_finds code handle s policy made named found done agree other t told also there no_trial
      tells =
      let one : handle ≡ other = ok_is {E = Refused} handle other (sym named ∙ also) in
      let same : s ≡ t =
      same_Some s t (sym (some_is _ _ s found) ∙ ap (session_at r.sessions) one ∙ there) in
      let policy_kind : is_trial s.kind ≡ false =
      ap (λ (x : Session). is_trial x.kind) same ∙ no_trial in
      let passes : asserted_policy s.hash false (made s) s.policy ≡ Ok policy =
      ap (λ (b : Bool). asserted_policy s.hash b (made s) s.policy) (sym policy_kind)
      ∙ policy_passed (asserted_policy s.hash (is_trial s.kind) (made s) s.policy) policy
      done in
      let holds : Finds (made s) s.policy =
      ok_at (λ new. Finds (made s) s.policy) (asserted_policy s.hash false (made s) s.policy)
      policy (found_by s.hash (made s) s.policy) passes in
      subst (λ (x : Session). assertion_by code c history x.hash x.nonce_tpm ≡ Ok told
      → Finds told x.policy × HasWidths x.hash told) same
      (λ is. agree s told is s.policy holds) tells

  assertion_finds : (code : Code) → IfOk (assertion_row code r q) (λ x. FindsItsOwn code)
  unfolding assertion_row
  assertion_finds code =
      ok_bind_is _ (session_handle code q.handles) _ (λ handle named.
      ok_then (Agrees code) _ (assertion_in code r q) _ (agrees code) (λ made agree.
      ok_then (λ sessions. FindsItsOwn code) _ (with_device_assertion r.sessions handle made) _
      (ok_bind_is _ (policy_session r.sessions handle) _ (λ s found.
      ok_bind_is _ (policy_after made s) _
      (λ policy done. session_finds code handle s policy made named found done agree)))
      (λ sessions finds. finds)))

  pub row_finds : (code : Code) → asserts code ≡ true
      → IfOk (row_of r code q) (λ x. FindsItsOwn code)
  unfolding row_of
  row_finds command.PolicyPcr is = assertion_finds command.PolicyPcr
  row_finds command.PolicyOr is = assertion_finds command.PolicyOr
  row_finds command.PolicyAuthValue is = assertion_finds command.PolicyAuthValue
  row_finds command.PolicyPassword is = assertion_finds command.PolicyPassword
  row_finds command.PolicyCommandCode is = assertion_finds command.PolicyCommandCode
  row_finds command.PolicyCpHash is = assertion_finds command.PolicyCpHash
  row_finds command.PolicyNvWritten is = assertion_finds command.PolicyNvWritten
  row_finds command.PolicyLocality is = assertion_finds command.PolicyLocality
  row_finds command.PolicySecret is = assertion_finds command.PolicySecret
  row_finds command.PolicyNv is = assertion_finds command.PolicyNv
  row_finds _ is = absurd cc

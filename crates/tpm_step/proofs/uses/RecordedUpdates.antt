-- The PCR update counter that a policy session recorded is consistent with the history. It does not
-- exceed the history's counter, and if the two are equal, the session's assertions about PCRs hold.
use Rattle.tpm_types_common.specs.YesNo.{yes_no_at}
use Rattle.std.proofs.Common.{◌≡◌, ◌≢◌, ◌⊎◌, ℕ, ◌+◌, ◌≤◌, arith, Bool, true, false, List, [], ◌∷◌, ◌++◌, append_assoc, length, Option, Some, None, option_map, Result, Ok, Err, IfOk, refl, ap, sym, subst, ◌∙◌, inl, inr}
use Rattle.std.specs.Prelude.{not, ◌&&◌, ◌||◌}
use Rattle.std.specs.Int.{w8, w32}
use Rattle.std.specs.List.{AllByRecursion, list_any}
use Rattle.std.specs.Option.{option_map_or}
use Rattle.std.specs.Str.{bytes_eq}
use Rattle.std.proofs.lemmas.Bool.{false≢true, or_parts}
use Rattle.std.proofs.lemmas.Option.{same_Some}
use Rattle.tpm_bytes.specs.Reading.{◌>>=◌, number_at, or_fault, refused_if}
use Rattle.tpm_bytes.proofs.Fields.{ok_is, passed}
use Rattle.tpm_mac.specs.declared.algorithm.HashAlg.{HashAlg}
use Rattle.tpm_policy.specs.Assertion.{Assertion, Pcr, Or, AuthValue, Password, CommandCode, Locality, Secret, Nv, PcrParts, asserted_policy, auth_value_asserted, is_other, password_asserted, pcr_asserted, CpHash, NvWritten}
use Rattle.tpm_commands.specs.declared.profile.Profile.TheVariants.{Complete}
use Rattle.tpm_policy.specs.Made.{policy_with}
use Rattle.tpm_policy.specs.State.{Policy}
use Rattle.tpm_session.specs.Sessions.{session_at}
use Rattle.tpm_session.specs.declared.session.Session.{Session}
use Rattle.tpm_types_common.specs.Buffer.{is_given, buffer_at}
use Rattle.tpm_types_common.specs.DigestList.{digest_list_at}
use Rattle.tpm_types_common.specs.Rc.{plain}
use Rattle.tpm_types_common.specs.SessionType.{is_trial}
use Rattle.tpm_types_common.specs.declared.handle.Handle.{Handle}
use Rattle.tpm_types_common.specs.declared.rc.ResponseCode.TheVariants as code
use Rattle.tpm_types_common.specs.declared.refused.Refused.{Refused}
use Rattle.tpm_types_common.specs.declared.session_type.SessionType.{SessionType}
use Rattle.tpm_types_common.specs.declared.session_type.SessionType.TheVariants as type
use Rattle.tpm_commands.specs.declared.command_code.CommandCode.{CommandCode as Code}
use Rattle.tpm_commands.specs.declared.command_code.CommandCode.TheVariants as command
use Rattle.tpm_object.specs.declared.object.Object.{Object}
use Rattle.tpm_record.specs.Record.{Record}
use Rattle.tpm_record.specs.rows.Request.{Request, first_handle}
use Rattle.tpm_record.specs.rows.Rows.{only}
use Rattle.tpm_actions_policy.specs.Assertions.{assertion_in, assertion_row, asserts, policy_after, policy_session, session_handle, with_assertion as with_device_assertion}
use Rattle.tpm_actions_policy.specs.PolicyNv.{nv_parameters}
use Rattle.tpm_actions_policy.specs.PolicyPcr.{Parameters as PcrParameters, pcr_parameters, pcr_parts_of}
use Rattle.tpm_actions_policy.specs.PolicySecret.{secret_parameters}
use Rattle.tpm_step.specs.step.General.{is_startup}
use Rattle.tpm_step.specs.step.Step.{Accepted}
use Rattle.tpm_step.specs.step.Table.{row_of}
use Rattle.tpm_step.specs.rows.Acceptance.{IsAcceptance, IsDue}
use Rattle.tpm_step.proofs.rows.Binding.{ok_at, ok_bind, ok_bind_is, ok_then, some_is}
use Rattle.tpm_policy_meaning.specs.Asserted.{evaluated_policy}
use Rattle.tpm_step.specs.history.DevicePcrs.{HasPcrs}
use Rattle.tpm_step.specs.history.DeviceSessions.{HasSessions, SessionFacts, facts_of, session_facts}
use Rattle.tpm_step.specs.history.History.{AcceptedCommand, Done, History, ObjectPlaced, PastEvent, command_of}
use Rattle.tpm_step.specs.history.Pcrs.{updates_by, updates_of, writes}
use Rattle.tpm_step.specs.history.Policies.{assertion_by, pcr_parts_in, with_assertion}
use Rattle.tpm_step.specs.uses.QuietPcrs.{AllRecordUpdates, AreQuietSince, HoldsOf, HoldsPcrs, IsQuiet, RecordsUpdates, asserts_pcrs, has_pcrs, is_pcr}
use Rattle.tpm_step.specs.history.Sessions.{LiveSession, asserted_by, policy_in, rolled_by, sessions_by, sessions_of}
use Rattle.tpm_step.proofs.history.Asserted.{policy_passed}
use Rattle.tpm_step.proofs.uses.QuietValues.{all_hold_on}
use Rattle.tpm_step.proofs.uses.UseGrounds.{recorded_is}
use Rattle.tpm_step.proofs.history.LivingOn.{Asserted, Begun, Came, Keeps, Stayed, entries_kept, row_came}

-- ---- a TPM2_PolicyPCR after an earlier TPM2_PolicyPCR

-- If the session at the first handle is not a trial session, it has recorded the device's update
-- counter, or no counter.
abbrev Agrees : Record → Request → Type 0
Agrees r q =
    (handle : Handle) (s : Session) → first_handle q.handles ≡ Ok handle
    → session_at r.sessions handle ≡ Some s
    → is_trial s.kind ≡ false → is_other s.policy.update_count r.fixed.banks.update_count ≡ false

pcr_agrees : (hash : HashAlg) (trial : Bool) (parts : PcrParts) (policy : Policy)
    → IfOk (pcr_asserted hash trial parts policy)
    (λ new. trial ≡ false → is_other policy.update_count parts.update_count ≡ false)
unfolding pcr_asserted
pcr_agrees hash trial parts policy =
    ok_bind_is _ (refused_if (not trial && is_other policy.update_count parts.update_count) _) _
    (λ u agrees.
    ok_bind _
    (refused_if (not trial && is_given parts.given && not (bytes_eq parts.given parts.digest))
    _) _ (λ v. λ none.
    subst (λ (b : Bool). (not b && is_other policy.update_count parts.update_count) ≡ false) none
    (passed _ _ u agrees)))

found_agrees : (r : Record) (q : Request) (handle : Handle) (p : PcrParameters) (s : Session)
    (policy : Policy) → first_handle q.handles ≡ Ok handle → policy_session r.sessions handle ≡ Ok s
    → policy_after (λ s. Pcr (pcr_parts_of r p s)) s ≡ Ok policy → Agrees r q
found_agrees r q handle p s policy named found made other t also there no_trial =
    let one : handle ≡ other = ok_is {E = Refused} handle other (sym named ∙ also) in
    let same : s ≡ t =
    same_Some s t (sym (some_is _ _ s found) ∙ ap (session_at r.sessions) one ∙ there) in
    let parts : PcrParts = pcr_parts_of r p s in
    let holds = ok_at _ (pcr_asserted s.hash (is_trial s.kind) parts s.policy) policy
    (pcr_agrees s.hash (is_trial s.kind) parts s.policy)
    (policy_passed (asserted_policy s.hash (is_trial s.kind) (Pcr parts) s.policy) policy
    made) in
    ap (λ (x : Session). is_other x.policy.update_count r.fixed.banks.update_count) (sym same)
    ∙ holds (ap (λ (x : Session). is_trial x.kind) same ∙ no_trial)

row_agrees : (r : Record) (q : Request) → IfOk (row_of r command.PolicyPcr q) (λ s. Agrees r q)
unfolding row_of assertion_row
row_agrees r q =
    ok_bind_is _ (first_handle q.handles) _ (λ handle named.
    ok_then (λ assertion. (s : Session) (policy : Policy) → policy_session r.sessions handle ≡ Ok s
    → policy_after assertion s ≡ Ok policy → Agrees r q) _
    (assertion_in command.PolicyPcr r q) _
    (ok_bind _ (pcr_parameters q.parameters) _
    (λ p. λ s policy found made. found_agrees r q handle p s policy named found made))
    (λ assertion agree.
    ok_then (λ sessions. Agrees r q) _ (with_device_assertion r.sessions handle assertion) _
    (ok_bind_is _ (policy_session r.sessions handle) _ (λ s found.
    ok_bind_is _ (policy_after assertion s) _ (λ policy made. agree s policy found made)))
    (λ sessions agree. agree)))

-- ---- the effect of an assertion on the recorded counter

-- The assertion, if it could be parsed, is not a TPM2_PolicyPCR.
abbrev IsOther : Result Assertion Refused → Type 0
IsOther x = IfOk x (λ assertion. is_pcr assertion ≡ false)

made_other : {A : Type 0} (x : Result A Refused) (f : A → Assertion)
    → ((a : A) → is_pcr (f a) ≡ false) → IsOther (x >>= λ a. Ok (f a))
made_other (Ok a) f other = other a
made_other (Err e) f other = tt

abbrev is_policy_pcr : Code → Bool
is_policy_pcr command.PolicyPcr = true
is_policy_pcr _ = false

other_told : (code : Code) (c : AcceptedCommand) (history : History) (hash : HashAlg)
    (nonce : List ℕ) → is_policy_pcr code ≡ false → IsOther (assertion_by code c history hash nonce)
other_told command.PolicyPcr c history hash nonce is = absurd cc
other_told command.PolicyOr c history hash nonce is =
    made_other (only (digest_list_at c.request.parameters)) (λ digests. Or digests) (λ a. refl)
other_told command.PolicyAuthValue c history hash nonce is = refl
other_told command.PolicyPassword c history hash nonce is = refl
other_told command.PolicyCommandCode c history hash nonce is =
    made_other (only (or_fault (number_at w32 c.request.parameters) (plain code.Insufficient)))
    (λ number. CommandCode Complete number) (λ a. refl)
other_told command.PolicyCpHash c history hash nonce is =
    made_other (only (buffer_at 32 c.request.parameters)) (λ cp_hash. CpHash cp_hash) (λ a. refl)
other_told command.PolicyNvWritten c history hash nonce is =
    made_other (only (yes_no_at c.request.parameters)) (λ is_written. NvWritten is_written)
    (λ a. refl)
other_told command.PolicyLocality c history hash nonce is =
    made_other (only (or_fault (number_at w8 c.request.parameters) (plain code.Insufficient)))
    (λ localities. Locality localities) (λ a. refl)
other_told command.PolicySecret c history hash nonce is =
    made_other (secret_parameters c.request.parameters) _ (λ a. refl)
other_told command.PolicyNv c history hash nonce is =
    made_other (nv_parameters c.request.parameters) _ (λ a. refl)
other_told _ c history hash nonce is = tt

count_stays : (hash : HashAlg) (trial : Bool) (assertion : Assertion) (p : Policy)
    → is_pcr assertion ≡ false → (policy_with hash trial assertion p).update_count ≡ p.update_count
unfolding auth_value_asserted password_asserted
count_stays hash trial (Pcr parts) p is = absurd cc
count_stays hash trial (Or digests) p is = refl
count_stays hash trial AuthValue p is = refl
count_stays hash trial Password p is = refl
count_stays hash trial (CommandCode profile number) p is = refl
count_stays hash trial (CpHash cp_hash) p is = refl
count_stays hash trial (NvWritten is_written) p is = refl
count_stays hash trial (Locality localities) p is = refl
count_stays hash trial (Secret secret) p is = refl
count_stays hash trial (Nv nv) p is = refl

-- Two sessions have recorded the same update counter. Both have assertions about PCRs, or neither
-- has. After each history, the new session's assertions about PCRs hold if those of the old session
-- hold.
record SameUpdates (old new : LiveSession) : Type 0 where
  count : (policy_in new).update_count ≡ (policy_in old).update_count
  asserts : asserts_pcrs new ≡ asserts_pcrs old
  holds : (history : History) → AllByRecursion (HoldsOf history old.hash) old.assertions
      → AllByRecursion (HoldsOf history new.hash) new.assertions

same_updates : (s : LiveSession) → SameUpdates s s
same_updates s = record { count = refl; asserts = refl; holds = λ history hold. hold }

other_holds : (history : History) (hash : HashAlg) (assertion : Assertion)
    → is_pcr assertion ≡ false → HoldsOf history hash assertion
other_holds history hash (Pcr parts) is = absurd cc
other_holds history hash _ is = tt

none_hold : (history : History) (hash : HashAlg) (assertions : List Assertion)
    → list_any is_pcr assertions ≡ false → AllByRecursion (HoldsOf history hash) assertions
none_hold history hash [] none = tt
none_hold history hash (assertion ∷ assertions) none = let parts =
    or_parts _ _ none in (
      other_holds history hash assertion parts.0,
      none_hold history hash assertions parts.1,
    )

other_same : (x : Result Assertion Refused) (s : LiveSession) → IsOther x
    → SameUpdates s (record s { assertions = with_assertion x s.assertions })
other_same (Ok assertion) s other = record {
  count = count_stays s.hash (is_trial s.kind) assertion (policy_in s) other;
  asserts = by (is_pcr assertion) other;
  holds = λ history hold. (other_holds history s.hash assertion other, hold);
}
  where
    by : (b : Bool) → b ≡ false → (b || asserts_pcrs s) ≡ asserts_pcrs s
    by false is = refl
    by true is = absurd cc
other_same (Err e) s other = same_updates s

kept_updates : (old new : LiveSession) → new.hash ≡ old.hash → new.kind ≡ old.kind
    → new.assertions ≡ old.assertions → SameUpdates old new
kept_updates old new hash kind assertions = record {
  count = ap (λ (h : HashAlg). (evaluated_policy h (is_trial new.kind) new.assertions).update_count)
      hash
      ∙ ap (λ (k : SessionType).
      (evaluated_policy old.hash (is_trial k) new.assertions).update_count) kind
      ∙ ap (λ (l : List Assertion). (evaluated_policy old.hash (is_trial old.kind) l).update_count)
      assertions;
  asserts = ap (λ (l : List Assertion). list_any is_pcr l) assertions;
  holds = λ history hold.
      subst (λ (h : HashAlg). AllByRecursion (HoldsOf history h) new.assertions) (sym hash)
      (subst (λ (l : List Assertion). AllByRecursion (HoldsOf history old.hash) l) (sym assertions)
      hold);
}

the_one : (code : Code) → is_policy_pcr code ≡ true → code ≡ command.PolicyPcr
the_one command.PolicyPcr is = refl
the_one _ is = absurd cc

-- ---- parts of a history

joined : (since : History) (first : PastEvent) (before : History)
    → (since ++ first ∷ []) ++ before ≡ since ++ first ∷ before
joined since first before = append_assoc since (first ∷ []) before

one_more : (handle : Handle) (event : PastEvent) (history : History)
    → has_pcrs (event ∷ history) handle ≡ true → IsQuiet event → AreQuietSince handle history
    → AreQuietSince handle (event ∷ history)
one_more handle event history has quiet since = record {
  since = event ∷ since.since;
  first = since.first;
  before = since.before;
  is = ap (λ (h : History). event ∷ h) since.is;
  code = since.code;
  names = since.names;
  begins = since.begins;
  keeps = (
    subst (λ (h : History). has_pcrs (event ∷ h) handle ≡ true)
        (since.is ∙ sym (joined since.since (Done since.first) since.before)) has,
    since.keeps,
  );
  quiet = (quiet, since.quiet);
}

-- ---- accepted commands

holds_as : {history : History} (handle : Handle) (old new : LiveSession) → SameUpdates old new
    → HoldsPcrs handle history old → HoldsPcrs handle history new
holds_as {history} handle old new same holds =
    record { quiet = holds.quiet; hold = same.holds history holds.hold }

live_has : (history : History) (handle : Handle) (s : LiveSession)
    → sessions_of history handle ≡ Some s → asserts_pcrs s ≡ true → has_pcrs history handle ≡ true
live_has history handle s lives asserts =
    ap (λ (found : Option LiveSession). option_map_or asserts_pcrs found false) lives ∙ asserts

module _ (r : Record) (a : Accepted) (locality : ℕ) (random : List ℕ) (history : History)
    (is : IsAcceptance r locality random a) (pcrs : HasPcrs r history) (has : HasSessions r history)
    (before : AllRecordUpdates history) where
  abbrev c : AcceptedCommand
  c = command_of r a

  -- if a session exists, the accepted command is not a TPM2_Startup
  no_startup : (handle : Handle) (s : LiveSession) → sessions_of history handle ≡ Some s
      → is_startup c.command.code ≡ false
  no_startup handle s lives = by c.command.code is.due
    where
      by : (code : Code) → IsDue code r → is_startup code ≡ false
      by command.Startup due =
          absurd (let none = has.asleep due handle in let never : ⊥ = cc in never)
      by _ due = refl

  updates_add : (code : Code) → is_startup code ≡ false
      → updates_by code c.request (updates_of history) ≡ updates_of history + writes code c.request
  updates_add command.Startup is = absurd cc
  updates_add _ is = refl

  -- If a command is quiet (`IsQuiet`), a session's assertions about PCRs that held before the
  -- command still hold after it.
  holds_more : (handle : Handle) (s : LiveSession) → has_pcrs (Done c ∷ history) handle ≡ true
      → IsQuiet (Done c) → HoldsPcrs handle history s → HoldsPcrs handle (Done c ∷ history) s
  holds_more handle s now quiet holds = record {
    quiet = one_more handle (Done c) history now quiet holds.quiet;
    hold = all_hold_on (Done c) history s.hash s.assertions quiet holds.hold;
  }

  stays_recorded : (handle : Handle) (old new : LiveSession) → sessions_of history handle ≡ Some old
      → has_pcrs (Done c ∷ history) handle ≡ true → SameUpdates old new
      → RecordsUpdates handle history old → RecordsUpdates handle (Done c ∷ history) new
  stays_recorded handle old new lived now same records =
      let plain : is_startup c.command.code ≡ false = no_startup handle old lived in
      let sum = updates_add c.command.code plain in
      record {
        count = records.count;
        recorded = same.count ∙ records.recorded;
        within = omega (arith, records.within, sum);
        hold = λ equal.
            let nothing : writes c.command.code c.request ≡ 0 =
            omega (arith, equal, records.within, sum) in
            holds_more handle new now (plain, nothing)
            (holds_as handle old new same (records.hold (omega (arith, equal, sum, nothing))));
      }

  -- ---- TPM2_PolicyPCR

  same_request : a.command.handles ≡ a.request.handles
  same_request = sym (ap (λ (q : Request). q.handles) is.requested)

  agrees_told : (code : Code) → a.command.code ≡ code → is_policy_pcr code ≡ true
      → (handle : Handle) (old : LiveSession) (count : ℕ)
      → first_handle a.request.handles ≡ Ok handle → sessions_of history handle ≡ Some old
      → old.kind ≡ type.Policy → (policy_in old).update_count ≡ Some count
      → count ≡ updates_of history
  agrees_told command.PolicyPcr named one handle old count first lived kind recorded =
      by (session_at r.sessions handle) refl (has.live handle)
    where
      agree : Agrees r a.request
      agree = ok_at (λ s. Agrees r a.request) (row_of r command.PolicyPcr a.request) a.success
          (row_agrees r a.request) (ap (λ (code : Code). row_of r code a.request) (sym named)
          ∙ is.row)

      by : (found : Option Session) → session_at r.sessions handle ≡ found
          → option_map session_facts found ≡ option_map facts_of (sessions_of history handle)
          → count ≡ updates_of history
      by None is same =
          absurd (let none : None ≡ Some (facts_of old) =
          same ∙ ap (option_map facts_of) lived in let never : ⊥ = cc in never)
      by (Some s) is same =
          let facts : session_facts s ≡ facts_of old =
          same_Some (session_facts s) (facts_of old) (same ∙ ap (option_map facts_of) lived) in
          let no_trial : is_trial s.kind ≡ false =
          ap (λ (f : SessionFacts). is_trial f.start.kind) facts ∙ ap is_trial kind in
          let counted : s.policy.update_count ≡ Some count =
          ap (λ (f : SessionFacts). f.policy.update_count) facts ∙ recorded in
          let same_count : is_other (Some count) r.fixed.banks.update_count ≡ false =
          subst (λ (x : Option ℕ). is_other x r.fixed.banks.update_count ≡ false) counted
          (agree handle s first is no_trial) in
          recorded_is (Some count) r.fixed.banks.update_count same_count ∙ pcrs.updates
  agrees_told _ named one handle old count first lived kind recorded = absurd cc

  -- a session after TPM2_PolicyPCR was executed on it
  abbrev with_pcrs : PcrParameters → LiveSession → LiveSession
  with_pcrs p s = record s { assertions = Pcr (pcr_parts_in history s.hash p) ∷ s.assertions }

  module _ (handle : Handle) (old : LiveSession) (code : a.command.code ≡ command.PolicyPcr)
      (names : first_handle a.request.handles ≡ Ok handle)
      (lived : sessions_of history handle ≡ Some old) (kind : old.kind ≡ type.Policy)
      (now : has_pcrs (Done c ∷ history) handle ≡ true) where
    quiet_pcr : IsQuiet (Done c)
    quiet_pcr = (ap is_startup code, ap (λ (x : Code). writes x c.request) code)

    -- After a TPM2_PolicyPCR on a session, no PCR has changed since the session's first
    -- TPM2_PolicyPCR, and the session's earlier assertions about PCRs hold.
    holds_first : (asserts : Bool) → asserts_pcrs old ≡ asserts
        → AreQuietSince handle (Done c ∷ history)
        × AllByRecursion (HoldsOf history old.hash) old.assertions
    holds_first false asserts = (
      record {
        since = [];
        first = c;
        before = history;
        is = refl;
        code = code;
        names = names;
        begins = ap (λ (found : Option LiveSession). option_map_or asserts_pcrs found false) lived
            ∙ asserts;
        keeps = (now, tt);
        quiet = tt;
      },
      none_hold history old.hash old.assertions asserts,
    )
    holds_first true asserts =
        let records = before handle old lived kind asserts in
        let holds =
        records.hold
        (agrees_told command.PolicyPcr code refl handle old records.count names lived kind
        records.recorded) in
        (one_more handle (Done c) history now quiet_pcr holds.quiet, holds.hold)

    pcr_recorded : (p : PcrParameters) → RecordsUpdates handle (Done c ∷ history) (with_pcrs p old)
    pcr_recorded p =
        let sum : updates_of (Done c ∷ history) ≡ updates_of history =
        ap (λ (x : Code). updates_by x c.request (updates_of history)) code ∙ omega arith in
        let first = holds_first (asserts_pcrs old) refl in
        record {
          count = updates_of history;
          recorded = refl;
          within = omega (arith, sum);
          hold = λ equal. record {
            quiet = first.0;
            hold = all_hold_on (Done c) history old.hash
                (Pcr (pcr_parts_in history old.hash p) ∷ old.assertions) quiet_pcr
                ((p.selection, refl, refl), first.1);
          };
        }

  -- ---- every command

  -- if a session has assertions about PCRs after the row, the session has recorded an update
  -- counter that satisfies `RecordsUpdates`
  module _ (handle : Handle) (mid : LiveSession) (kind : mid.kind ≡ type.Policy)
      (asserts_some : asserts_pcrs mid ≡ true)
      (now : has_pcrs (Done c ∷ history) handle ≡ true) where
    nothing_asserted : mid.assertions ≡ [] → ⊥
    nothing_asserted none =
        false≢true (sym (ap (λ (l : List Assertion). list_any is_pcr l) none) ∙ asserts_some)

    still_recorded : (old : LiveSession) → sessions_of history handle ≡ Some old
        → mid.kind ≡ old.kind → SameUpdates old mid → RecordsUpdates handle (Done c ∷ history) mid
    still_recorded old lived same_kind same =
        stays_recorded handle old mid lived now same
        (before handle old lived (sym same_kind ∙ kind) (sym same.asserts ∙ asserts_some))

    kept_recorded : (old : LiveSession) → sessions_of history handle ≡ Some old → Keeps old mid
        → RecordsUpdates handle (Done c ∷ history) mid
    kept_recorded old lived keeps = by keeps.asserted
      where
        by : (mid.assertions ≡ old.assertions) ⊎ (mid.assertions ≡ [])
            → RecordsUpdates handle (Done c ∷ history) mid
        by (inr none) = absurd (nothing_asserted none)
        by (inl same) = still_recorded old lived keeps.continues.kind
            (kept_updates old mid keeps.continues.hash keeps.continues.kind same)

    asserted_recorded : (code : Code) → a.command.code ≡ code → (old : LiveSession)
        → sessions_of history handle ≡ Some old → session_handle code a.request.handles ≡ Ok handle
        → asserted_by code c history old ≡ mid → RecordsUpdates handle (Done c ∷ history) mid
    asserted_recorded code is old lived names made = by (is_policy_pcr code) refl
      where
        same_kind : mid.kind ≡ old.kind
        same_kind = ap (λ (s : LiveSession). s.kind) (sym made)

        asserted : Result PcrParameters Refused → LiveSession
        asserted x =
            record old {
              assertions =
                  with_assertion (x >>= λ p. Ok (Pcr (pcr_parts_in history old.hash p)))
                  old.assertions;
            }

        by_pcr : (x : Result PcrParameters Refused) → code ≡ command.PolicyPcr
            → asserted_by code c history old ≡ asserted x
            → RecordsUpdates handle (Done c ∷ history) mid
        by_pcr (Ok p) one same =
            subst (RecordsUpdates handle (Done c ∷ history)) (sym same ∙ made)
            (pcr_recorded handle old (is ∙ one)
            (ap (λ (x : Code). session_handle x a.request.handles) (sym one) ∙ names) lived
            (sym same_kind ∙ kind) now p)
        by_pcr (Err e) one same =
            subst (λ (s : LiveSession). s.kind ≡ type.Policy → asserts_pcrs s ≡ true
            → RecordsUpdates handle (Done c ∷ history) s) (sym same ∙ made)
            (λ policy some. stays_recorded handle old old lived now (same_updates old)
            (before handle old lived policy some)) kind asserts_some

        by : (pcr : Bool) → is_policy_pcr code ≡ pcr → RecordsUpdates handle (Done c ∷ history) mid
        by true one = by_pcr (pcr_parameters a.request.parameters) (the_one code one)
            (ap (λ (x : Code). asserted_by x c history old) (the_one code one))
        by false other =
            still_recorded old lived same_kind
            (subst (SameUpdates old) made
            (other_same (assertion_by code c history old.hash old.nonce_tpm) old
            (other_told code c history old.hash old.nonce_tpm other)))

    came_recorded : Came c.command.code c history (sessions_of history handle) handle mid
        → RecordsUpdates handle (Done c ∷ history) mid
    came_recorded (Begun starts none) = absurd (nothing_asserted none)
    came_recorded (Stayed was) = kept_recorded was.0 was.1 was.2
    came_recorded (Asserted old lived it_does names made) =
        asserted_recorded c.command.code refl old lived names made

  pub updates_done : 1 ≤ length (rolled_by c history (sessions_of history)).left
      → AllRecordUpdates (Done c ∷ history)
  updates_done some handle new lives kind asserts_some =
      let (mid, was, keeps) = entries_kept c history some handle new lives in
      by mid was keeps keeps.asserted
    where
      now : has_pcrs (Done c ∷ history) handle ≡ true
      now = live_has (Done c ∷ history) handle new lives asserts_some

      by : (mid : LiveSession) → sessions_by c.command.code c history (sessions_of history) handle
          ≡ Some mid → Keeps mid new → (new.assertions ≡ mid.assertions) ⊎ (new.assertions ≡ [])
          → RecordsUpdates handle (Done c ∷ history) new
      by mid was keeps (inr none) =
          absurd
          (false≢true (sym (ap (λ (l : List Assertion). list_any is_pcr l) none) ∙ asserts_some))
      by mid was keeps (inl same) =
          let updates = kept_updates mid new keeps.continues.hash keeps.continues.kind same in
          let records = came_recorded handle mid (sym keeps.continues.kind ∙ kind)
          (sym updates.asserts ∙ asserts_some) now
          (row_came c history (sessions_of history) handle mid c.command.code was) in
          record {
            count = records.count;
            recorded = updates.count ∙ records.recorded;
            within =
                records.within;
            hold =
                λ equal. holds_as handle mid new updates (records.hold equal);
          }

-- ---- objects from saved contexts

pub placed_updates : (at : Handle) (object : Object) (history : History) → AllRecordUpdates history
    → AllRecordUpdates (ObjectPlaced at object ∷ history)
placed_updates at object history all handle s lives kind asserts =
    let event : PastEvent = ObjectPlaced at object in
    let records : RecordsUpdates handle history s = all handle s lives kind asserts in
    record {
      count = records.count;
      recorded = records.recorded;
      within = records.within;
      hold = λ equal. record {
        quiet = one_more handle event history (live_has (event ∷ history) handle s lives asserts) tt
            (records.hold equal).quiet;
        hold = all_hold_on event history s.hash s.assertions tt (records.hold equal).hold;
      };
    }

-- ---- devices without a session

pub no_updates : (history : History) → ((handle : Handle) → sessions_of history handle ≡ None)
    → AllRecordUpdates history
no_updates history none handle s lives kind asserts =
    absurd (let gone = none handle in let never : ⊥ = cc in never)

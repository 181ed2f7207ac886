-- If the device accepts the command that the layer sends for a client's command whose first entry
-- names an existing session, the client's HMAC was right.
use Rattle.std.proofs.Common.{◌≡◌, ℕ, ◌^◌, ◌<◌, Bool, true, false, cond, List, [], ◌∷◌, length, Option, Some, None, option_map, Result, Ok, Err, IfOk, refl, sym, ap, subst, ◌∙◌, append-nil, eqb-true}
use Rattle.std.specs.Prelude.{◌-◌, ◌==◌, ◌&&◌, ◌||◌, nat_lt, not, ok_or, option_and_then, slice_get, take, if◌then◌else◌}
use Rattle.std.specs.List.{AllByRecursion, list_any}
use Rattle.std.specs.Option.{option_map_or}
use Rattle.std.proofs.lemmas.Option.{none-some, same_Some}
use Rattle.tpm_bytes.specs.Reading.{AreBytes, refused_if}
use Rattle.tpm_types_common.specs.Buffer.{buffer_at}
use Rattle.tpm_types_common.specs.Handle.{is_session, session_kind}
use Rattle.tpm_types_common.specs.Limits.{data_limit}
use Rattle.tpm_types_common.specs.Rc.{plain}
use Rattle.tpm_types_common.specs.Refused.{checked_result, refusal}
use Rattle.tpm_types_common.specs.SessionType.{type_byte}
use Rattle.tpm_types_common.specs.declared.check.Check.TheVariants as check
use Rattle.tpm_types_common.specs.declared.handle.Handle.{Handle}
use Rattle.tpm_types_common.specs.declared.handle.SessionKind.{SessionKind}
use Rattle.tpm_types_common.specs.declared.handle.SessionKind.TheVariants as kind
use Rattle.tpm_types_common.specs.declared.rc.ResponseCode.TheVariants as code
use Rattle.tpm_types_common.specs.declared.session_type.SessionType.{SessionType}
use Rattle.tpm_types_common.specs.declared.session_type.SessionType.TheVariants as type
use Rattle.tpm_types_command.specs.AuthEntry.{Entry, IsEntry}
use Rattle.tpm_types_command.specs.Command.{IsHandle, Whole}
use Rattle.tpm_commands.specs.CommandCode.{authorized_handles, code_number, handle_count, nv_use_at, shape_of}
use Rattle.tpm_commands.specs.declared.command_code.CommandCode.{CommandCode}
use Rattle.tpm_commands.specs.declared.command_code.CommandCode.TheVariants as command
use Rattle.tpm_containers.specs.Numbered.{at_number, if_of_kind, kind_of, place_of}
use Rattle.tpm_containers.specs.Slots.{at_place}
use Rattle.tpm_session.specs.FirstBuffer.{has_first_buffer}
use Rattle.tpm_session.specs.Sessions.{session_at, session_byte}
use Rattle.tpm_session.specs.declared.session.Session.{Session}
use Rattle.tpm_record.specs.Entity.{auth_value_of, entity_at, is_available, name_of, object_of}
use Rattle.tpm_record.specs.Record.{Record}
use Rattle.tpm_record.specs.Tick.{after_tick}
use Rattle.tpm_record.specs.rows.Rows.{all_read, parameter}
use Rattle.tpm_record.specs.declared.entity.Means.TheVariants as means
use Rattle.tpm_auth.specs.Comparison.{check_of, failure, is_password_of, may_be_tried}
use Rattle.tpm_auth.specs.Entries.{decrypts, entries_pass, is_password, session_of}
use Rattle.tpm_auth.specs.Grant.{authorize, authorized, grant, grant_by, grants_pass, session_grant_if, undemanding}
use Rattle.tpm_auth.specs.SessionGrant.{comparison, comparison_holds, demand_by, demand_of_session, demands_password, entry_protection, granted_value, is_authentic, is_bound_to, session_grant, takes_value, used_auth_value}
use Rattle.tpm_auth.specs.declared.session_grant.Grant.{Grant}
use Rattle.tpm_step.proofs.rows.Acceptance.{accepted_is}
use Rattle.tpm_step.proofs.rows.Binding.{asked, ok_at, ok_bind, ok_bind_is, ok_then}
use Rattle.tpm_step.specs.rows.Acceptance.{IsAcceptance}
use Rattle.tpm_sequence.specs.Authorization.{is_authorized}
use Rattle.tpm_sequence.specs.Sequence.{sequence_updated}
use Rattle.tpm_step.specs.step.Events.{Given}
use Rattle.tpm_step.specs.step.Step.{Accepted, acceptance_in, step, stepped_of}
use Rattle.tpm_step.specs.declared.refused_command.RefusedCommand.{RefusedCommand}
use Rattle.tpm_completion.specs.Authorizing.{absent_refused, entries_at, handle_at, names_hmac_session, only_entry, password_refused, sequence_named, two_entries}
use Rattle.tpm_completion.specs.Sending.{EventComplete, digests_text, event_asked, event_complete_in, event_covered, event_entry, extend_command, hmac_command, hmac_parameters, hmac_start_in, random_command, random_covered, random_parameters, sequence_asked, start_asked, start_covered, start_entry}
use Rattle.tpm_completion.specs.SequenceRows.{Named, mode_refused, named_in}
use Rattle.tpm_completion.specs.Sequences.{in_slot}
use Rattle.tpm_completion.specs.SessionEntry.{Covered, entry_sent, is_right, sent_hmac, value_in_key}
use Rattle.tpm_completion.specs.declared.completion.Completion.{Completion}
use Rattle.tpm_completion_laws.proofs.SentCommands.{IsPlain, accepted_one, check_some, entries_are, handle_is, no_session, one_text, only_is, sent_plain, two_are, with_one}
use Rattle.tpm_completion_laws.proofs.SequencesStarted.{IsStart, start_is}
use Rattle.tpm_completion_laws.proofs.SessionEntries.{carries_the_proof, compares_like_the_device}
use Rattle.tpm_completion_laws.specs.SessionEntries.{AcceptsOnlyProofs, EventsAcceptOnlyProofs, SequencesAcceptOnlyProofs, covered_by}

-- ---- the session of an entry

-- the highest byte of a session's handle shows the type of the session
kind_found : (places : List (Option Session)) (handle : Handle) (s : Session)
    → session_at places handle ≡ Some s → kind_of handle.number ≡ session_byte s
unfolding session_at at_number
kind_found places handle s is = by (at_place places (place_of handle.number)) is
  where
    if_kind : (o : Session) (b : Bool) → (kind_of handle.number == session_byte o) ≡ b
        → (if b then Some o else None) ≡ Some s → kind_of handle.number ≡ session_byte s
    if_kind o true same found = eqb-true (kind_of handle.number) (session_byte o) same
        ∙ ap session_byte (same_Some o s found)
    if_kind o false same found = absurd (none-some s found)

    by : (o : Option Session) → option_and_then (if_of_kind session_byte handle.number) o ≡ Some s
        → kind_of handle.number ≡ session_byte s
    by None found = absurd (none-some s found)
    by (Some o) found = if_kind o (kind_of handle.number == session_byte o) refl found

-- an entry that names an existing session does not contain a password
session_named : (r : Record) (e : Entry) (s : Session) → session_of r e ≡ Some s
    → is_password e ≡ false
session_named r e s found = by (is_password e) refl
  where
    by : (b : Bool) → is_password e ≡ b → b ≡ false
    by true is = absurd (none-some s (sym (no_session r.sessions e.session is) ∙ found))
    by false is = refl

session_kind_is : (r : Record) (e : Entry) (s : Session) → session_of r e ≡ Some s
    → session_kind e.session ≡ kind.Session
session_kind_is r e s found =
    ap (λ (b : Bool). if b then kind.Password
    else (if is_session e.session then kind.Session else kind.Other))
    (session_named r e s found)
    ∙ ap (λ (n : ℕ). if n == 0x02 || n == 0x03 then kind.Session else kind.Other)
    (kind_found r.sessions e.session s found)
    ∙ by s.kind
  where
    by : (t : SessionType)
        → (if type_byte t == 0x02 || type_byte t == 0x03 then kind.Session else kind.Other)
        ≡ kind.Session
    by type.Hmac = refl
    by type.Policy = refl
    by type.Trial = refl

-- if an entry passes the layer's checks and names an existing session, this is an HMAC session
hmac_is : (r : Record) (e : Entry) (s : Session) → session_of r e ≡ Some s → IsPlain e
    → s.kind ≡ type.Hmac
hmac_is r e s found plain =
    by s.kind
    (subst (λ (n : ℕ). ((n == 0x02 || n == 0x03) && not (n == 0x03)) ≡ true)
    (kind_found r.sessions e.session s found)
    (subst (λ (b : Bool). (b || names_hmac_session e) ≡ true) (session_named r e s found)
    plain.known))
  where
    by : (t : SessionType)
        → ((type_byte t == 0x02 || type_byte t == 0x03) && not (type_byte t == 0x03)) ≡ true
        → t ≡ type.Hmac
    by type.Hmac is = refl
    by type.Policy is = absurd cc
    by type.Trial is = absurd cc

-- ---- the device's authorization of a command with one entry, which names an HMAC session

module _ (t : Record) (locality : ℕ) (e : Entry) (s : Session) (found : session_of t e ≡ Some s)
    (hmac : s.kind ≡ type.Hmac) where
  -- The HMAC in the entry, which has to authorize this handle, is right.
  abbrev IsProved : Whole → Option Handle → Type 0
  IsProved c used = is_authentic t c 1 (option_map undemanding used) e s ≡ true

  compared : (c : Whole) (g : Option Grant) → demands_password g ≡ false
      → IfOk (comparison t c 1 g e s) (λ granted. is_authentic t c 1 g e s ≡ true)
  unfolding comparison_holds
  compared c g none =
      ok_bind _ (may_be_tried t.fixed.lockout g (entry_protection t s g)) _ (λ tried.
      ok_bind_is _ (refused_if (not (comparison_holds t c 1 g e s))
      (failure (check_of g) 1 (entry_protection t s g))) _ (λ u holds.
      subst (λ (b : Bool). cond b (is_password_of (granted_value t g) e.hmac)
      (is_authentic t c 1 g e s) ≡ true) none (asked _ _ u holds)))

  session_proved : (c : Whole) (used : Option Handle)
      → IfOk (session_grant t c locality 1 used e s) (λ granted. IsProved c used)
  unfolding session_grant demand_of_session
  session_proved c None = compared c None refl
  session_proved c (Some handle) =
      ok_then (λ d. d ≡ (undemanding handle).demand) (λ granted. IsProved c (Some handle))
      (demand_by s.kind t c locality 1 handle s) _
      (subst (λ (k : SessionType). IfOk (demand_by k t c locality 1 handle s)
      (λ d. d ≡ (undemanding handle).demand)) (sym hmac)
      (ok_bind (λ d. d ≡ (undemanding handle).demand)
      (refused_if (not (is_available t handle means.AuthValue (nv_use_at c.code (1 - 1))))
      (refusal check.Authorization (plain code.AuthUnavailable))) _ (λ available. refl)))
      (λ d is.
      subst (λ d. IfOk (comparison t c 1 (Some (record { handle = handle; demand = d })) e s)
      (λ granted. IsProved c (Some handle))) (sym is)
      (compared c (Some (undemanding handle)) refl))

  grant_proved : (c : Whole) (used : Option Handle)
      → IfOk (grant t c locality 1 used e) (λ granted. IsProved c used)
  unfolding grant
  grant_proved c used =
      subst (λ (k : SessionKind). IfOk (grant_by k t c locality 1 used e)
      (λ granted. IsProved c used)) (sym (session_kind_is t e s found))
      (subst (λ (o : Option Session). IfOk (session_grant_if t c locality 1 used e o)
      (λ granted. IsProved c used)) (sym found) (session_proved c used))

  authorize_proved : (c : Whole) → c.entries ≡ e ∷ []
      → IfOk (authorize t c locality) (λ grants. IsProved c (slice_get (authorized c) 0))
  unfolding authorize
  authorize_proved c only =
      let used : Option Handle = slice_get (authorized c) 0 in
      ok_bind (λ grants. IsProved c used)
      (checked_result check.Entries (entries_pass t c.code [] c.entries)) _ (λ own.
      ok_bind (λ grants. IsProved c used)
      (refused_if (nat_lt (length c.entries) (authorized_handles c.code)) _) _ (λ enough.
      ok_then (λ grants. IsProved c used) (λ grants. IsProved c used)
      (grants_pass t c locality [] c.entries) _
      (subst (λ (entries : List Entry). IfOk (grants_pass t c locality [] entries)
      (λ grants. IsProved c used)) (sym only)
      (ok_then (λ granted. IsProved c used) (λ grants. IsProved c used)
      (grant t c locality 1 used e) _ (grant_proved c used) (λ granted proved. proved)))
      (λ grants proved.
      ok_bind (λ grants. IsProved c used)
      (refused_if (list_any decrypts c.entries && not (has_first_buffer c.parameters)) _) _
      (λ whole. proved))))

  -- The HMAC in the entry is right for what the layer's check covers.
  abbrev IsCovered : Whole → Type 0
  IsCovered c = is_right s (covered_by t c s (option_map undemanding (slice_get (authorized c) 0)))
      e ≡ true

  accepted_proved : (c : Whole) (random : List ℕ) (x : Result Accepted RefusedCommand)
      → c.entries ≡ e ∷ [] → IfOk x (IsAcceptance t locality random) → IfOk x (λ a. a.command ≡ c)
      → (stepped_of t random x).row.check ≡ 0 → IsCovered c
  accepted_proved c random (Ok a) only is same zero =
      sym (compares_like_the_device t c (option_map undemanding (slice_get (authorized c) 0)) e s
      only)
      ∙ ok_at (λ grants. IsProved c (slice_get (authorized c) 0)) (authorize t c locality) a.grants
      (authorize_proved c only)
      (subst (λ (d : Whole). authorize t d locality ≡ Ok a.grants) same is.granted)
  accepted_proved c random (Err refused) only is same zero =
      absurd (check_some refused.refused.check zero)

-- ---- the client's HMAC

-- if the HMAC in the entry that the layer sends is right, so is the client's
proved_back : (r : Record) (asked sent : Covered) (e : Entry) (s : Session)
    → session_of r e ≡ Some s → (asked.value ≡ [] → sent.value ≡ [])
    → is_right s sent (entry_sent r asked sent e) ≡ true → is_right s asked e ≡ true
proved_back r asked sent e s found kept right =
    sym (carries_the_proof s asked sent e kept)
    ∙ ap (λ (o : Option Session). is_right s sent
    (record e { hmac = option_map_or (λ (x : Session). sent_hmac x asked sent e) o e.hmac }))
    (sym found)
    ∙ right

-- time that passes changes neither Names nor authorization values
same_name : (r : Record) (handle : Handle) → name_of (after_tick r 0) handle ≡ name_of r handle
unfolding name_of entity_at object_of
same_name r handle = refl

same_value : (r : Record) (s : Session) (g : Option Grant)
    → used_auth_value (after_tick r 0) s g ≡ used_auth_value r s g
unfolding used_auth_value takes_value is_bound_to auth_value_of name_of entity_at object_of
same_value r s None = refl
same_value r s (Some g) = refl

value_is : (r : Record) (e : Entry) (s : Session) (handle : Handle) → session_of r e ≡ Some s
    → used_auth_value r s (Some (undemanding handle)) ≡ value_in_key r e handle
unfolding value_in_key
value_is r e s handle found =
    ap (λ (o : Option Session). option_map_or
    (λ (x : Session). used_auth_value r x (Some (undemanding handle))) o []) (sym found)

-- what the device's check of the layer's command covers, if the command has one handle, which the
-- entry authorizes
one_covers : (r : Record) (code : CommandCode) (handle : Handle) (e carried : Entry)
    (parameters : List ℕ) (s : Session) → session_of r e ≡ Some s
    → covered_by (after_tick r 0) (with_one code (handle ∷ []) carried parameters) s
    (Some (undemanding handle))
    ≡ record {
      code = code_number code;
      names = name_of r handle;
      parameters =
          parameters;
      value = value_in_key r e handle;
    }
one_covers r code handle e carried parameters s found =
    let covered : (names value : List ℕ) → Covered =
    λ names value. record {
      code = code_number code;
      names = names;
      parameters =
          parameters;
      value = value;
    } in
    ap (λ (names : List ℕ). covered names
    (used_auth_value (after_tick r 0) s (Some (undemanding handle))))
    (append-nil (name_of (after_tick r 0) handle) ∙ same_name r handle)
    ∙ ap (covered (name_of r handle)) (same_value r s (Some (undemanding handle))
    ∙ value_is r e s handle found)

-- ---- a command that the layer sends

-- If the device accepts a command with the layer's entry, the HMAC in the client's entry is right.
-- `used` is the handle that the entry has to authorize, if any.
module _ (r : Record) (code : CommandCode) (handles : List Handle) (used : Option Handle)
    (parameters : List ℕ) (asked sent : Covered) (e : Entry) (s : Session) where
  sent_proved : (locality : ℕ) (random : List ℕ) → length handles ≡ handle_count code
      → AllByRecursion IsHandle handles → slice_get (take (authorized_handles code) handles) 0
      ≡ used → IsPlain e → session_of r e ≡ Some s → (asked.value ≡ [] → sent.value ≡ [])
      → covered_by (after_tick r 0) (with_one code handles (entry_sent r asked sent e) parameters) s
      (option_map undemanding used) ≡ sent
      → (step r (Given (one_text code handles (entry_sent r asked sent e) parameters) locality 0
      random)).row.check ≡ 0
      → is_right s asked e ≡ true
  sent_proved locality random many fit first plain found kept covers zero =
      let t : Record = after_tick r 0 in
      let carried : Entry = entry_sent r asked sent e in
      let begun : IsPlain carried = sent_plain r asked sent e plain in
      let whole : Whole = with_one code handles carried parameters in
      let buffer : List ℕ = one_text code handles carried parameters in
      let proved : is_right s
      (covered_by t whole s (option_map undemanding (slice_get (authorized whole) 0))) carried
      ≡ true =
      accepted_proved t locality carried s found (hmac_is r carried s found begun) whole random
      (acceptance_in t buffer locality random) refl
      (accepted_is t buffer locality random)
      (accepted_one t code handles carried parameters locality random many fit begun.entry)
      zero in
      proved_back r asked sent e s found kept
      (subst (λ (x : Covered). is_right s x carried ≡ true)
      (ap (λ (o : Option Handle). covered_by t whole s (option_map undemanding o)) first
      ∙ covers) proved)

-- ---- TPM2_HMAC_Start

pub accepts_only_proofs : AcceptsOnlyProofs
unfolding hmac_command shape_of
accepts_only_proofs r c text start s locality random fits asked found zero =
    let is : IsStart start = ok_at IsStart (hmac_start_in c text) start (start_is c text fits)
    asked in
    sent_proved r command.Hmac (start.handle ∷ []) (Some start.handle) (hmac_parameters start.hash)
    (start_asked r start) (start_covered r start) start.entry s locality random
    refl (is.handle, tt) refl is.entry found (λ none. none)
    (one_covers r command.Hmac start.handle start.entry (start_entry r start)
    (hmac_parameters start.hash) s found) zero

-- ---- TPM2_SequenceUpdate and TPM2_SequenceComplete

-- the only entry of the command
named_is : (c : Completion) (text : List ℕ) → AreBytes text
    → IfOk (named_in c text) (λ named. IsPlain named.entry)
unfolding named_in
named_is c text fits =
    ok_then (λ x. (x.0.number < 2 ^ 32) × AreBytes x.1) (λ (named : Named). IsPlain named.entry)
    (handle_at 1 text) _ (handle_is 1 text fits) (λ handle is.
    ok_bind (λ (named : Named). IsPlain named.entry) (sequence_named c 1 code.ReferenceH0 handle.0)
    _ (λ slot.
    ok_bind (λ (named : Named). IsPlain named.entry)
    (ok_or (in_slot c slot) (absent_refused code.ReferenceH0)) _ (λ object.
    ok_then (λ x. AllByRecursion IsEntry x.0) (λ (named : Named). IsPlain named.entry)
    (entries_at handle.1) _ (entries_are handle.1 is.1) (λ entries are.
    ok_then IsPlain (λ (named : Named). IsPlain named.entry) (only_entry entries.0) _
    (only_is entries.0 are) (λ entry one. one)))))

random_covers : (r : Record) (e : Entry) (s : Session)
    → covered_by (after_tick r 0) (with_one command.GetRandom [] e random_parameters) s None
    ≡ random_covered
unfolding used_auth_value
random_covers r e s = refl

pub sequences_accept_only_proofs : SequencesAcceptOnlyProofs
unfolding random_command shape_of
sequences_accept_only_proofs r c text code named work s locality random fits asked found zero =
    let is : IsPlain named.entry =
    ok_at (λ (x : Named). IsPlain x.entry) (named_in c text) named (named_is c text fits)
    asked in
    sent_proved r command.GetRandom [] None random_parameters (sequence_asked code named)
    random_covered named.entry s locality random
    refl tt refl is found (λ none. refl)
    (random_covers r (entry_sent r (sequence_asked code named) random_covered named.entry) s) zero

-- ---- TPM2_EventSequenceComplete

-- The first handle and the first entry can be encoded, and the entry passes the layer's checks.
record IsEvent (event : EventComplete) : Type 0 where
  pcr : event.pcr.number < 2 ^ 32
  entry : IsPlain event.entry

event_is : (c : Completion) (text : List ℕ) → AreBytes text
    → IfOk (event_complete_in c text) IsEvent
unfolding event_complete_in
event_is c text fits =
    ok_then (λ x. (x.0.number < 2 ^ 32) × AreBytes x.1) IsEvent (handle_at 1 text) _
    (handle_is 1 text fits) (λ pcr is.
    ok_then (λ x. (x.0.number < 2 ^ 32) × AreBytes x.1) IsEvent (handle_at 2 pcr.1) _
    (handle_is 2 pcr.1 is.1) (λ handle second.
    ok_bind IsEvent (sequence_named c 2 code.ReferenceH1 handle.0) _ (λ slot.
    ok_bind IsEvent (ok_or (in_slot c slot) (absent_refused code.ReferenceH1)) _ (λ object.
    ok_then (λ x. AllByRecursion IsEntry x.0) IsEvent (entries_at handle.1) _
    (entries_are handle.1 second.1) (λ entries are.
    ok_then (λ x. IsPlain x.0) IsEvent (two_entries entries.0) _ (two_are entries.0 are)
    (λ both one.
    ok_bind IsEvent (refused_if (not (is_authorized object both.1.hmac)) (password_refused 2)) _
    (λ wrong.
    ok_bind IsEvent (parameter 1 (buffer_at data_limit entries.1)) _ (λ bytes.
    ok_bind IsEvent (all_read bytes.1) _ (λ ended.
    ok_bind IsEvent (ok_or (digests_text (sequence_updated object.sequence bytes.0))
    (mode_refused 2)) _ (λ digests.
    record { pcr = is.0; entry = one }))))))))))

pub events_accept_only_proofs : EventsAcceptOnlyProofs
unfolding extend_command shape_of
events_accept_only_proofs r c text event s locality random fits asked found zero =
    let is : IsEvent event = ok_at IsEvent (event_complete_in c text) event (event_is c text fits)
    asked in
    sent_proved r command.PcrExtend (event.pcr ∷ []) (Some event.pcr) event.digests
    (event_asked r event) (event_covered r event) event.entry s locality random
    refl (is.pcr, tt) refl is.entry found (λ none. none)
    (one_covers r command.PcrExtend event.pcr event.entry (event_entry r event) event.digests s
    found) zero

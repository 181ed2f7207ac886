-- TPM2_HMAC_Start starts a sequence with the hash and the key that the device uses for TPM2_HMAC.
use Rattle.std.proofs.Common.{arith, ◌≡◌, ℕ, ◌^◌, ◌<◌, ◌≤◌, Bool, true, false, cond, List, [], ◌∷◌, ◌++◌, length, drop, Option, Some, None, option_map, Result, Ok, Err, IfOk, refl, sym, ap, subst, ◌∙◌, eqb-true}
use Rattle.std.specs.Prelude.{◌==◌, ◌&&◌, bit_and, nat_lt, not, ok_or, option_and_then, slice_get, if◌then◌else◌}
use Rattle.std.specs.Int.{w16, w32, to_be_bytes}
use Rattle.std.specs.List.{AllByRecursion, list_any}
use Rattle.std.specs.Option.{option_map_or}
use Rattle.std.proofs.lemmas.Nat.{and_assoc, and_le_l}
use Rattle.tpm_bytes.proofs.Fields.{AreBytes, ok_is, or_fault_ok, passed, sized_again}
use Rattle.tpm_bytes.specs.Reading.{◌>>=◌, refused_if, sized_at}
use Rattle.tpm_bytes.specs.Writing.{sized_text}
use Rattle.tpm_bytes.specs.declared.cursor.SizedFault.TheVariants as fault
use Rattle.tpm_mac.specs.Hmac.{hmac_of}
use Rattle.tpm_mac.specs.declared.algorithm.HashAlg.{HashAlg}
use Rattle.tpm_types_common.specs.declared.action_check.ActionCheck.TheVariants as action
use Rattle.tpm_types_common.specs.declared.check.Check.TheVariants as check
use Rattle.tpm_types_common.specs.declared.handle.Handle.{Handle}
use Rattle.tpm_types_common.specs.declared.rc.Place.TheVariants as place
use Rattle.tpm_types_common.specs.declared.rc.Rc.{Rc}
use Rattle.tpm_types_common.specs.declared.rc.ResponseCode.TheVariants as code
use Rattle.tpm_types_common.specs.declared.refused.Refused.{Refused}
use Rattle.tpm_types_common.specs.Algorithm.{hash_number, hash_or_null_at, hash_or_null_number}
use Rattle.tpm_types_common.specs.Buffer.{buffer_at, or_sized_rc}
use Rattle.tpm_types_common.specs.Limits.{data_limit}
use Rattle.tpm_types_common.specs.Rc.{at, plain}
use Rattle.tpm_types_common.specs.Refused.{checked_result}
use Rattle.tpm_types_common.specs.SessionAttributes.{uses_cipher}
use Rattle.tpm_types_common.proofs.HashLaws.{hash_or_null_spelled}
use Rattle.tpm_types_object.specs.ObjectAttributes.{has}
use Rattle.tpm_types_object.specs.declared.object_attributes.ObjectAttribute.TheVariants as attribute
use Rattle.tpm_types_object.specs.declared.public.KeyedHashScheme.{KeyedHashScheme}
use Rattle.tpm_types_object.specs.declared.public.KeyedHashScheme.TheVariants as scheme
use Rattle.tpm_types_object.specs.declared.public.PublicParameters.{PublicParameters}
use Rattle.tpm_types_object.specs.declared.public.PublicParameters.TheVariants.{KeyedHash, SymCipher}
use Rattle.tpm_types_command.specs.AuthEntry.{Entry, IsEntry}
use Rattle.tpm_types_command.specs.Command.{Whole}
use Rattle.tpm_commands.specs.CommandCode.{authorized_handles, code_number, shape_of}
use Rattle.tpm_commands.specs.declared.command_code.CommandCode.TheVariants as command
use Rattle.tpm_object.specs.declared.object.Object.{Object}
use Rattle.tpm_sequence.proofs.SequenceLaws.{hmac_sequence_is_hmac}
use Rattle.tpm_sequence.specs.Sequence.{hmac_sequence}
use Rattle.tpm_sequence.specs.Sequence.{object_of as sequence_object}
use Rattle.tpm_session.specs.FirstBuffer.{has_first_buffer}
use Rattle.tpm_session.specs.ParameterHash.{HashedParts, OfResponse}
use Rattle.tpm_session.specs.declared.session.Session.{Session}
use Rattle.tpm_record.specs.Entity.{object_of}
use Rattle.tpm_record.specs.Record.{Record}
use Rattle.tpm_record.specs.Tick.{after_tick}
use Rattle.tpm_record.specs.rows.Answer.{Sized, answer_of}
use Rattle.tpm_record.specs.rows.Refusals.{action_refusal, handle_refusal}
use Rattle.tpm_record.specs.rows.Request.{Request}
use Rattle.tpm_record.specs.rows.Rows.{Success, all_read, parameter, unchanged_success}
use Rattle.tpm_auth.specs.Entries.{decrypts, entries_pass, is_password, session_of}
use Rattle.tpm_auth.specs.Grant.{authorize, authorized, grant, grants_pass}
use Rattle.tpm_auth.specs.declared.session_grant.Grant.{Grant}
use Rattle.tpm_actions_object.specs.Hmac.{Parameters, chosen_hash, hmac_row, own_hash, parameters_in, scheme_of}
use Rattle.tpm_actions_object.specs.Loaded.{loaded_at}
use Rattle.tpm_step.proofs.rows.Binding.{asked, ok_at, ok_bind, ok_bind_is, ok_then, some_is}
use Rattle.tpm_step.proofs.rows.Acceptance.{accepted_is}
use Rattle.tpm_step.specs.step.Answer.{answer_to, framed_message, success_text, written_of}
use Rattle.tpm_step.specs.step.Entries.{entries_answer, entries_rolled, entry_answer, password_answer, session_answer}
use Rattle.tpm_step.specs.step.Granted.{Granted}
use Rattle.tpm_step.specs.step.Parameters.{asks_for, entry_parameters, session_parameters}
use Rattle.tpm_step.specs.step.Step.{Accepted, acceptance_in, request_in, stepped_of, success_step}
use Rattle.tpm_step.specs.step.Table.{row_of}
use Rattle.tpm_step.specs.declared.direction.Direction.{Direction}
use Rattle.tpm_step.specs.declared.direction.Direction.TheVariants as direction
use Rattle.tpm_step.specs.declared.refused_command.RefusedCommand.{RefusedCommand}
use Rattle.tpm_step.specs.rows.Acceptance.{IsAcceptance}
use Rattle.tpm_completion.specs.Authorizing.{entries_at, handle_at, only_entry}
use Rattle.tpm_completion.specs.Sending.{HmacStart, hmac_command, hmac_start_in, key_hash, keyed_sequence, start_asked, start_covered, start_entry, start_sent, start_work}
use Rattle.tpm_completion.specs.SequenceRows.{authorized_success, full_refused}
use Rattle.tpm_completion.specs.Sequences.{free_slot}
use Rattle.tpm_completion.specs.declared.completion.Completion.{Completion}
use Rattle.tpm_completion.specs.declared.sending.Work.TheVariants.{Starts}
use Rattle.tpm_completion_laws.proofs.SentCommands.{IsPlain, accepted_one, check_some, entries_are, handle_is, no_session, only_is, sent_plain, with_one}
use Rattle.tpm_completion_laws.specs.Sequences.{StartsLikeTheDevice, StartsWithTheKey, hmac_request}

-- ---- results of several steps

bind_is : {A B E : Type 0} (x : Result A E) (f : A → Result B E) (a : A) (y : Result B E) → x ≡ Ok a
    → f a ≡ y → (x >>= f) ≡ y
bind_is x f a y is rest = rw is rest

not_false : (b : Bool) → not b ≡ false → b ≡ true
not_false true e = refl
not_false false e = absurd cc

-- ---- what TPM2_HMAC_Start asks for

-- The handle and the entry can be encoded, and the entry passes the layer's checks.
pub record IsStart (start : HmacStart) : Type 0 where
  pub handle : start.handle.number < 2 ^ 32
  pub entry : IsPlain start.entry

pub start_is : (c : Completion) (text : List ℕ) → AreBytes text
    → IfOk (hmac_start_in c text) IsStart
unfolding hmac_start_in
start_is c text fits =
    ok_then (λ x. (x.0.number < 2 ^ 32) × AreBytes x.1) IsStart (handle_at 1 text) _
    (handle_is 1 text fits) (λ handle is.
    ok_then (λ x. AllByRecursion IsEntry x.0) IsStart (entries_at handle.1) _
    (entries_are handle.1 is.1) (λ entries are.
    ok_then IsPlain IsStart (only_entry entries.0) _ (only_is entries.0 are) (λ entry one.
    ok_bind IsStart (parameter 1 (buffer_at 32 entries.1)) _ (λ auth.
    ok_bind IsStart (parameter 2 (hash_or_null_at auth.1)) _ (λ hash.
    ok_bind IsStart (all_read hash.1) _ (λ ended.
    ok_bind IsStart (ok_or (free_slot c) full_refused) _ (λ slot.
    record { handle = is.0; entry = one })))))))

-- the same request, with the entry that the layer sends
abbrev with_sent : Record → HmacStart → HmacStart
with_sent r start = record start { entry = start_entry r start }

sent_is : (r : Record) (start : HmacStart) → IsStart start → IsStart (with_sent r start)
sent_is r start is = record {
  handle = is.handle;
  entry = sent_plain r (start_asked r start) (start_covered r start) start.entry is.entry;
}

-- ---- the command that is sent

-- the parameters of TPM2_HMAC: a buffer, and the hashAlg of a TPM2_HMAC_Start
abbrev parameters_text : HmacStart → (message : List ℕ) → List ℕ
parameters_text start message =
    sized_text message ++ to_be_bytes w16 (hash_or_null_number start.hash)

-- the command as the device decodes it
abbrev hmac_whole : HmacStart → Whole
hmac_whole start = with_one command.Hmac (start.handle ∷ []) start.entry (parameters_text start [])

accepted_whole : (t : Record) (start : HmacStart) (locality : ℕ) (random : List ℕ) → IsStart start
    → IfOk (acceptance_in t (hmac_command start.handle start.entry start.hash) locality random)
    (λ a. a.command ≡ hmac_whole start)
unfolding hmac_command shape_of
accepted_whole t start locality random is =
    accepted_one t command.Hmac (start.handle ∷ []) start.entry (parameters_text start []) locality
    random refl (is.handle, tt) is.entry.entry

-- ---- the answer to a password

password_answered : (r : Record) (hashed : HashedParts) (g : Option Grant) (e : Entry)
    → session_of r e ≡ None → entry_answer r hashed g e ≡ password_answer
unfolding entry_answer
password_answered r hashed g e none =
    ap (λ (o : Option Session). option_map_or (session_answer r hashed g e) o password_answer) none

-- ---- the entry neither decrypts nor encrypts parameters

-- if none of the bits of the two attributes is set, the bit of one of them is not set
no_bit : (octet bit : ℕ) → bit_and 0x60 bit ≡ bit → not (bit_and octet 0x60 == 0) ≡ false
    → not (bit_and octet bit == 0) ≡ false
no_bit octet bit inside none =
    let both : bit_and octet 0x60 ≡ 0 =
    eqb-true (bit_and octet 0x60) 0 (not_false (bit_and octet 0x60 == 0) none) in
    let one : bit_and octet bit ≡ bit_and 0 bit =
    ap (bit_and octet) (sym inside) ∙ sym (and_assoc bit octet 0x60)
    ∙ ap (λ (n : ℕ). bit_and n bit) both in
    let zero : bit_and octet bit ≡ 0 = omega (arith, one, and_le_l 0 bit) in
    ap (λ (n : ℕ). not (n == 0)) zero

asks_none : (d : Direction) (e : Entry) → uses_cipher e.attributes ≡ false → asks_for d e ≡ false
asks_none direction.Decrypt e none = no_bit e.attributes.octet 0x20 refl none
asks_none direction.Encrypt e none = no_bit e.attributes.octet 0x40 refl none

plain_by : (d : Direction) (r : Record) (g : Option Grant) (e : Entry) (text : List ℕ)
    → uses_cipher e.attributes ≡ false → session_parameters d r ((e, g) ∷ []) text ≡ text
plain_by d r g e text none =
    ap (λ (b : Bool). option_map_or (λ (x : Granted). entry_parameters d r x.1 x.0 text)
    (cond b (Some (e, g)) None) text) (asks_none d e none)

-- ---- the grants

-- There is one grant.
abbrev IsOneGrant : List (Option Grant) → Type 0
IsOneGrant grants = (g : Option Grant) × (grants ≡ g ∷ [])

one_grant : (t : Record) (start : HmacStart) (locality : ℕ)
    → IfOk (authorize t (hmac_whole start) locality) IsOneGrant
unfolding authorize
one_grant t start locality =
    let c : Whole = hmac_whole start in
    ok_bind IsOneGrant (checked_result check.Entries (entries_pass t c.code [] c.entries)) _ (λ own.
    ok_bind IsOneGrant (refused_if (nat_lt (length c.entries) (authorized_handles c.code)) _) _
    (λ enough.
    ok_then IsOneGrant IsOneGrant (grants_pass t c locality [] c.entries) _
    (ok_bind IsOneGrant (grant t c locality 1 (slice_get (authorized c) 0) start.entry) _
    (λ this. (this, refl))) (λ grants are.
    ok_bind IsOneGrant
    (refused_if (list_any decrypts c.entries && not (has_first_buffer c.parameters)) _) _
    (λ whole. are))))

-- ---- the row

buffer_again : (message rest : List ℕ) → length message ≤ data_limit
    → buffer_at data_limit (sized_text message ++ rest) ≡ Ok (message, rest)
unfolding buffer_at
buffer_again message rest few =
    ap or_sized_rc (or_fault_ok (sized_at data_limit (sized_text message ++ rest)) fault.Short
    (message, rest)
    (sized_again data_limit fault.Short message rest (omega (arith, few)) few))

-- the parameters as the device decodes them
abbrev parameters_of : HmacStart → (message : List ℕ) → Parameters
parameters_of start message = record { buffer = message; hash = start.hash }

parameters_again : (start : HmacStart) (message : List ℕ) → length message ≤ data_limit
    → parameters_in (parameters_text start message) ≡ Ok (parameters_of start message)
unfolding parameters_in
parameters_again start message few =
    let rest : List ℕ = to_be_bytes w16 (hash_or_null_number start.hash) in
    bind_is (parameter 1 (buffer_at data_limit (parameters_text start message))) _ (message, rest) _
    (ap (λ (x : Result (List ℕ × List ℕ) Rc). parameter 1 x) (buffer_again message rest few))
    (bind_is (parameter 2 (hash_or_null_at rest)) _ (start.hash, []) _
    (ap (λ (x : Result (Option HashAlg × List ℕ) Rc). parameter 2 x)
    (hash_or_null_spelled.again start.hash [] tt)) refl)

-- the refusals of the row
abbrev restricted_refusal : Refused
restricted_refusal = action_refusal action.Second (at (place.Handle 1) (plain code.Attributes))

abbrev key_refusal : Refused
key_refusal = action_refusal action.Third (at (place.Handle 1) (plain code.Key))

abbrev hash_refusal : Refused
hash_refusal = action_refusal action.Fourth (at (place.Parameter 2) (plain code.Value))

-- the row of TPM2_HMAC of this handle and these parameters
abbrev hmac_by : Record → Handle → List ℕ → Result Success Refused
hmac_by t handle text = do
  object ← loaded_at t handle
  p ← parameters_in text
  scheme ← scheme_of object.public.parameters
  a2 ← refused_if (has object.public.attributes attribute.Restricted) restricted_refusal
  a3 ← refused_if (not (has object.public.attributes attribute.Sign)) key_refusal
  hash ← ok_or (chosen_hash scheme p.hash) hash_refusal
  Ok (unchanged_success t (answer_of (Sized (hmac_of hash object.sensitive p.buffer))))

row_by : (t : Record) (start : HmacStart) (locality : ℕ) (random message : List ℕ)
    → hmac_row t (hmac_request start locality random message)
    ≡ hmac_by t start.handle (parameters_text start message)
unfolding hmac_row
row_by t start locality random message = refl

-- The row of TPM2_HMAC succeeds with this object, scheme and hash.
record IsHmac (t : Record) (start : HmacStart) (success : Success) : Type 0 where
  object : Object
  scheme : KeyedHashScheme
  hash : HashAlg
  found : object_of t start.handle ≡ Some object
  kind : scheme_of object.public.parameters ≡ Ok scheme
  unrestricted : has object.public.attributes attribute.Restricted ≡ false
  signs : not (has object.public.attributes attribute.Sign) ≡ false
  chosen : chosen_hash scheme start.hash ≡ Some hash
  answer : success ≡ unchanged_success t (answer_of (Sized (hmac_of hash object.sensitive [])))

parameters_are : (start : HmacStart) (x : Result Parameters Refused)
    → x ≡ Ok (parameters_of start []) → IfOk x (λ p. p ≡ parameters_of start [])
parameters_are start (Ok p) is = ok_is {E = Refused} p (parameters_of start []) is
parameters_are start (Err e) is = tt

row_is : (t : Record) (start : HmacStart)
    → IfOk (hmac_by t start.handle (parameters_text start [])) (IsHmac t start)
row_is t start =
    ok_bind_is (IsHmac t start) (loaded_at t start.handle) _ (λ object found.
    ok_then (λ (p : Parameters). p ≡ parameters_of start []) (IsHmac t start)
    (parameters_in (parameters_text start [])) _
    (parameters_are start (parameters_in (parameters_text start []))
    (parameters_again start [] (omega arith))) (λ p same.
    ok_bind_is (IsHmac t start) (scheme_of object.public.parameters) _ (λ scheme kind.
    ok_bind_is (IsHmac t start)
    (refused_if (has object.public.attributes attribute.Restricted) restricted_refusal) _
    (λ a2 second.
    ok_bind_is (IsHmac t start)
    (refused_if (not (has object.public.attributes attribute.Sign)) key_refusal) _ (λ a3 third.
    ok_bind_is (IsHmac t start) (ok_or (chosen_hash scheme p.hash) hash_refusal) _ (λ hash fourth.
    record {
      object = object;
      scheme = scheme;
      hash = hash;
      found = some_is (object_of t start.handle) handle_refusal object found;
      kind = kind;
      unrestricted = passed (has object.public.attributes attribute.Restricted) restricted_refusal
          a2 second;
      signs = passed (not (has object.public.attributes attribute.Sign)) key_refusal a3 third;
      chosen = ap (λ (q : Parameters). chosen_hash scheme q.hash) (sym same)
          ∙ some_is (chosen_hash scheme p.hash) hash_refusal hash fourth;
      answer =
          ap (λ (q : Parameters). unchanged_success t
          (answer_of (Sized (hmac_of hash object.sensitive q.buffer)))) same;
    }))))))

by_again : (t : Record) (start : HmacStart) (success : Success) (is : IsHmac t start success)
    (message : List ℕ) → length message ≤ data_limit
    → hmac_by t start.handle (parameters_text start message)
    ≡ Ok (unchanged_success t (answer_of (Sized (hmac_of is.hash is.object.sensitive message))))
by_again t start success is message few =
    bind_is (loaded_at t start.handle) _ is.object _
    (ap (λ (o : Option Object). ok_or o handle_refusal) is.found)
    (bind_is (parameters_in (parameters_text start message)) _ (parameters_of start message) _
    (parameters_again start message few)
    (bind_is (scheme_of is.object.public.parameters) _ is.scheme _ is.kind
    (bind_is (refused_if (has is.object.public.attributes attribute.Restricted) restricted_refusal)
    _ tt _ (ap (λ (b : Bool). refused_if b restricted_refusal) is.unrestricted)
    (bind_is (refused_if (not (has is.object.public.attributes attribute.Sign)) key_refusal) _ tt _
    (ap (λ (b : Bool). refused_if b key_refusal) is.signs)
    (bind_is (ok_or (chosen_hash is.scheme start.hash) hash_refusal) _ is.hash _
    (ap (λ (h : Option HashAlg). ok_or h hash_refusal) is.chosen) refl)))))

row_served : (t : Record) (q : Request) → row_of t command.Hmac q ≡ hmac_row t q
unfolding row_of
row_served t q = refl

-- ---- the sequence

-- the hash with which the row computes the HMAC is that of the sequence
key_is : (parameters : PublicParameters) (scheme : KeyedHashScheme) (asked : Option HashAlg)
    (hash : HashAlg) → scheme_of parameters ≡ Ok scheme → chosen_hash scheme asked ≡ Some hash
    → key_hash parameters asked ≡ Some hash
key_is (KeyedHash scheme.Null) one asked hash is chosen =
    subst (λ (x : KeyedHashScheme). chosen_hash x asked ≡ Some hash)
    (sym (ok_is {E = Refused} scheme.Null one is)) chosen
key_is (KeyedHash (scheme.Hmac own)) one asked hash is chosen =
    own_is asked (subst (λ (x : KeyedHashScheme). chosen_hash x asked ≡ Some hash)
    (sym (ok_is {E = Refused} (scheme.Hmac own) one is)) chosen)
  where
    if_own : (b : Bool) → (if b then Some own else None) ≡ Some hash → Some own ≡ Some hash
    if_own true e = e
    if_own false e = absurd cc

    own_is : (o : Option HashAlg) → own_hash own o ≡ Some hash → Some own ≡ Some hash
    own_is None e = e
    own_is (Some other) e = if_own (hash_number own == hash_number other) e
key_is SymCipher one asked hash is chosen = absurd cc

-- time that passes does not change objects
same_object : (r : Record) (handle : Handle) (elapsed : ℕ)
    → object_of (after_tick r elapsed) handle ≡ object_of r handle
unfolding object_of
same_object r handle elapsed = refl

work_is : (r : Record) (start : HmacStart) (object : Object) (hash : HashAlg)
    → object_of r start.handle ≡ Some object → key_hash object.public.parameters start.hash
    ≡ Some hash
    → (start_sent r start).work
    ≡ Some (Starts start.slot
    (sequence_object start.auth (hmac_sequence hash object.sensitive)))
work_is r start object hash found keyed =
    ap (λ (o : Option Object). option_map (start_work start.slot start.auth)
    (option_and_then (keyed_sequence start.hash) o)) found
    ∙ ap (λ (k : Option HashAlg). option_map (start_work start.slot start.auth)
    (option_map (λ (h : HashAlg). hmac_sequence h object.sensitive) k)) keyed

-- ---- the response

-- the record after the entry's session got its new nonce
abbrev rolled_after : Record → Entry → (random : List ℕ) → Record
rolled_after t e random = (entries_rolled t (e ∷ []) (drop 0 random)).after

-- the answer to the entry
abbrev area_after : Record → Entry → Option Grant → (random mac : List ℕ) → List ℕ
area_after t e g random mac =
    entries_answer (rolled_after t e random)
    (OfResponse (code_number command.Hmac) (sized_text mac)) ((e, g) ∷ [])

area_of_password : (t : Record) (e : Entry) (g : Option Grant) (random mac : List ℕ)
    → is_password e ≡ true → area_after t e g random mac ≡ password_answer
area_of_password t e g random mac is =
    let after : Record = rolled_after t e random in
    ap (λ (area : List ℕ). area ++ [])
    (password_answered after (OfResponse (code_number command.Hmac) (sized_text mac)) g e
    (no_session after.sessions e.session is))

answer_is : (t : Record) (start : HmacStart) (g : Option Grant) (random mac : List ℕ)
    → uses_cipher start.entry.attributes ≡ false
    → (answer_to (hmac_whole start) (g ∷ []) (written_of (answer_of (Sized mac))) t random).response
    ≡ authorized_success [] (sized_text mac) (area_after t start.entry g random mac)
unfolding answer_to success_text
answer_is t start g random mac none =
    let e : Entry = start.entry in
    let after : Record = rolled_after t e random in
    ap (λ (parameters : List ℕ). framed_message 0x8002 0
    ([] ++ to_be_bytes w32 (length parameters) ++ parameters
    ++ entries_answer after (OfResponse (code_number command.Hmac) parameters)
    ((e, g) ∷ [])))
    (plain_by direction.Encrypt after g e (sized_text mac) none)

-- ---- the law

accepted_starts : (r : Record) (start : HmacStart) (locality : ℕ) (random : List ℕ) (a : Accepted)
    → IsStart start → IsAcceptance (after_tick r 0) locality random a → a.command ≡ hmac_whole start
    → StartsLikeTheDevice (after_tick r 0) start (start_sent r start).work
    (success_step a random).response
accepted_starts r start locality random a begun is same =
    let t : Record = after_tick r 0 in
    let c : Whole = hmac_whole start in
    let none : uses_cipher start.entry.attributes ≡ false = begun.entry.cipher in
    let granted : authorize t c locality ≡ Ok a.grants =
    subst (λ (d : Whole). authorize t d locality ≡ Ok a.grants) same is.granted in
    let one : IsOneGrant a.grants =
    ok_at IsOneGrant (authorize t c locality) a.grants (one_grant t start locality) granted in
    let asked : a.request ≡ hmac_request start locality random [] =
    is.requested
    ∙ ap (λ (d : Whole). request_in t d a.grants locality random) same
    ∙ ap (λ (grants : List (Option Grant)). request_in t c grants locality random) one.1
    ∙ ap (λ (text : List ℕ). let q : Request =
    record {
      handles = start.handle ∷ [];
      locality = locality;
      parameters = text;
      random =
          random;
    } in q)
    (plain_by direction.Decrypt t one.0 start.entry (parameters_text start []) none) in
    let row : hmac_by t start.handle (parameters_text start []) ≡ Ok a.success =
    sym (row_by t start locality random [])
    ∙ sym (row_served t (hmac_request start locality random []))
    ∙ ap (λ (q : Request). row_of t command.Hmac q) (sym asked)
    ∙ ap (λ (d : Whole). row_of t d.code a.request) (sym same)
    ∙ is.row in
    let keyed : IsHmac t start a.success =
    ok_at (IsHmac t start) (hmac_by t start.handle (parameters_text start [])) a.success
    (row_is t start) row in
    let mac : List ℕ = hmac_of keyed.hash keyed.object.sensitive [] in
    record {
      hash = keyed.hash;
      key = keyed.object.sensitive;
      sequence = hmac_sequence keyed.hash keyed.object.sensitive;
      area = area_after t start.entry one.0 random mac;
      work = work_is r start keyed.object keyed.hash
          (sym (same_object r start.handle 0) ∙ keyed.found)
          (key_is keyed.object.public.parameters keyed.scheme start.hash keyed.hash keyed.kind
          keyed.chosen);
      digest = λ parts. hmac_sequence_is_hmac keyed.hash keyed.object.sensitive parts;
      answer = λ one_locality drawn message few. row_by t start one_locality drawn message
          ∙ by_again t start a.success keyed message few;
      response =
          ap (λ (d : Whole).
          (answer_to d a.grants (written_of a.success.answer) a.success.after random).response)
          same
          ∙ ap (λ (grants : List (Option Grant)).
          (answer_to c grants (written_of a.success.answer) a.success.after random).response)
          one.1
          ∙ ap (λ (s : Success).
          (answer_to c (one.0 ∷ []) (written_of s.answer) s.after random).response)
          keyed.answer
          ∙ answer_is t start one.0 random mac none;
      password = area_of_password t start.entry one.0 random mac;
    }

stepped_starts : (r : Record) (start : HmacStart) (locality : ℕ) (random : List ℕ)
    (x : Result Accepted RefusedCommand) → IsStart start
    → IfOk x (IsAcceptance (after_tick r 0) locality random)
    → IfOk x (λ a. a.command ≡ hmac_whole start)
    → (stepped_of (after_tick r 0) random x).row.check ≡ 0
    → StartsLikeTheDevice (after_tick r 0) start (start_sent r start).work
    (stepped_of (after_tick r 0) random x).response
stepped_starts r start locality random (Ok a) begun is same zero =
    accepted_starts r start locality random a begun is same
stepped_starts r start locality random (Err e) begun is same zero =
    absurd (check_some e.refused.check zero)

-- what holds of the request with the entry that the layer sends holds of the client's request
sent_starts : (r : Record) (start : HmacStart) (text : List ℕ)
    → StartsLikeTheDevice (after_tick r 0) (with_sent r start)
    (start_sent r (with_sent r start)).work text
    → StartsLikeTheDevice (after_tick r 0) start (start_sent r start).work text
sent_starts r start text is = record {
  hash = is.hash;
  key = is.key;
  sequence = is.sequence;
  area = is.area;
  work = is.work;
  digest = is.digest;
  answer = is.answer;
  response = is.response;
  password = is.password;
}

pub starts_with_the_key : StartsWithTheKey
starts_with_the_key r c text start locality random fits asked zero =
    let t : Record = after_tick r 0 in
    let sent : HmacStart = with_sent r start in
    let buffer : List ℕ = hmac_command sent.handle sent.entry sent.hash in
    let begun : IsStart sent =
    sent_is r start (ok_at IsStart (hmac_start_in c text) start (start_is c text fits) asked) in
    sent_starts r start (stepped_of t random (acceptance_in t buffer locality random)).response
    (stepped_starts r sent locality random (acceptance_in t buffer locality random) begun
    (accepted_is t buffer locality random) (accepted_whole t sent locality random begun) zero)

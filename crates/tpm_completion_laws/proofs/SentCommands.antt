-- The commands that the layer sends to the device have one entry. The device decodes them as they
-- were sent.
use Rattle.std.proofs.Common.{arith, ◌≡◌, ℕ, ◌+◌, ◌^◌, ◌<◌, ◌≤◌, Bool, true, false, List, [], ◌∷◌, ◌++◌, length, flat_map, Option, Some, None, Result, Ok, Err, IfOk, refl, sym, ap, subst, ◌∙◌, append-nil, eqb-true, ltb-false}
use Rattle.std.specs.Prelude.{◌==◌, ◌||◌, nat_lt, not, ok_or, option_and_then, if◌then◌else◌}
use Rattle.std.specs.Int.{w32, to_be_bytes}
use Rattle.std.specs.List.{AllByRecursion}
use Rattle.std.specs.Option.{option_map_or}
use Rattle.tpm_bytes.proofs.Fields.{AreBytes, number_or_takes, ok_is, passed, wide32}
use Rattle.tpm_bytes.specs.Reading.{◌>>=◌, number_at, or_fault, refused_if}
use Rattle.tpm_types_common.specs.declared.check.Check.{Check}
use Rattle.tpm_types_common.specs.declared.check.Check.TheVariants as check
use Rattle.tpm_types_common.specs.declared.handle.Handle.{Handle}
use Rattle.tpm_types_common.specs.declared.rc.Rc.{Rc}
use Rattle.tpm_types_common.specs.declared.rc.ResponseCode.TheVariants as code
use Rattle.tpm_types_common.specs.declared.session_type.SessionType.{SessionType}
use Rattle.tpm_types_common.specs.declared.session_type.SessionType.TheVariants as type
use Rattle.tpm_types_common.specs.Check.{check_number}
use Rattle.tpm_types_common.specs.Handle.{password_handle}
use Rattle.tpm_types_common.specs.Limits.{buffer_limit}
use Rattle.tpm_types_common.specs.SessionAttributes.{audits, has_reserved_bits, uses_cipher}
use Rattle.tpm_types_common.specs.SessionType.{type_byte}
use Rattle.tpm_types_command.proofs.CommandLaws.{command_again, command_body_text-is, command_size-is, command_text-is}
use Rattle.tpm_types_command.proofs.EntryLaws.{area_takes}
use Rattle.tpm_types_command.specs.AuthArea.{area_at}
use Rattle.tpm_types_command.specs.AuthEntry.{Entry, IsEntry, auth_entry_text}
use Rattle.tpm_types_command.specs.Command.{IsCommand, IsHandle, Whole, command_at, command_body_text, command_size, command_text, handle_text, handles_at, header_or_rc, sessions_at}
use Rattle.tpm_types_command.specs.Header.{code_field, header_at, header_text, size_field, tag_field}
use Rattle.tpm_types_command.specs.Tag.{tag_named}
use Rattle.tpm_types_command.specs.declared.header.Header.{Header}
use Rattle.tpm_types_command.specs.declared.header.HeaderFault.{HeaderFault}
use Rattle.tpm_types_command.specs.declared.header.HeaderFault.TheVariants as fault
use Rattle.tpm_types_command.specs.declared.tag.Tag.TheVariants.{Sessions}
use Rattle.tpm_commands.specs.CommandCode.{code_named, code_number, handle_count}
use Rattle.tpm_commands.specs.declared.command_code.CommandCode.{CommandCode}
use Rattle.tpm_containers.specs.Numbered.{at_number, if_of_kind, kind_of, place_of}
use Rattle.tpm_containers.specs.Slots.{at_place}
use Rattle.tpm_session.specs.Sessions.{session_at, session_byte}
use Rattle.tpm_session.specs.declared.session.Session.{Session}
use Rattle.tpm_record.specs.Record.{Record}
use Rattle.tpm_auth.specs.Entries.{is_password, session_of}
use Rattle.tpm_auth.specs.Grant.{authorize}
use Rattle.tpm_step.proofs.rows.Binding.{asked, ok_at, ok_bind, ok_bind_is, ok_checked, ok_in_command, ok_then, ok_weaker}
use Rattle.tpm_step.proofs.step.Decoding.{general_reads}
use Rattle.tpm_step.specs.step.Answer.{framed_message}
use Rattle.tpm_step.specs.step.General.{general}
use Rattle.tpm_step.specs.step.Step.{acceptance, acceptance_in, request_in}
use Rattle.tpm_step.specs.step.Table.{row_of}
use Rattle.tpm_completion.specs.Authorizing.{entries_at, entry_passes, entry_refused, first_passes, handle_at, names_hmac_session, only_entry, two_entries}
use Rattle.tpm_completion.specs.Sending.{area_of}
use Rattle.tpm_completion.specs.SessionEntry.{Covered, entry_sent, sent_hmac}
use Rattle.tpm_completion_laws.proofs.SessionEntries.{few_bytes}

-- ---- results of several steps

-- if `refused_if` does not refuse, its condition is false
unrefused : {E : Type 0} (P : Type 0) (b : Bool) (fault : E) → (b ≡ false → P)
    → IfOk (refused_if b fault) (λ u. P)
unrefused P true fault all = tt
unrefused P false fault all = all refl

neither : (a b : Bool) → (a || b) ≡ false → (a ≡ false) × (b ≡ false)
neither true b e = absurd cc
neither false b e = (refl, e)

-- ---- handles and entries

-- An entry can be encoded. It contains a password or names an HMAC session. It neither decrypts nor
-- encrypts a parameter.
pub record IsPlain (e : Entry) : Type 0 where
  pub entry : IsEntry e
  pub known : (is_password e || names_hmac_session e) ≡ true
  pub cipher : uses_cipher e.attributes ≡ false

pub handle_is : (n : ℕ) (text : List ℕ) → AreBytes text
    → IfOk (handle_at n text) (λ x. (x.0.number < 2 ^ 32) × AreBytes x.1)
unfolding handle_at
handle_is n text fits =
    ok_bind_is _ (or_fault (number_at w32 text) _) _ (λ number is.
    let t = number_or_takes w32 (2 ^ 32) wide32 _ text number fits is in (t.1, t.0.rest_fits))

pub entries_are : (text : List ℕ) → AreBytes text
    → IfOk (entries_at text) (λ x. AllByRecursion IsEntry x.0)
unfolding entries_at
entries_are text fits = ok_checked _ check.Entries (area_at text) (by (area_at text) refl)
  where
    by : (x : Result (List Entry × List ℕ) Rc) → area_at text ≡ x
        → IfOk x (λ y. AllByRecursion IsEntry y.0)
    by (Ok y) is = (area_takes text y fits is).2
    by (Err e) is = tt

plain_is : (e : Entry) → IsEntry e → IfOk (first_passes e) (λ u. IsPlain e)
unfolding entry_passes
plain_is e is =
    let allowed : Bool = is_password e || names_hmac_session e in
    ok_bind (λ u. IsPlain e)
    (refused_if (nat_lt 32 (length e.nonce) || nat_lt 32 (length e.hmac))
    (entry_refused 1 code.Size)) _ (λ one.
    ok_bind_is (λ u. IsPlain e) (refused_if (not allowed) (entry_refused 1 code.Handle)) _
    (λ two second.
    ok_bind (λ u. IsPlain e)
    (refused_if (has_reserved_bits e.attributes) (entry_refused 1 code.ReservedBits)) _
    (λ three.
    unrefused (IsPlain e) (audits e.attributes || uses_cipher e.attributes)
    (entry_refused 1 code.Attributes) (λ other. record {
      entry = is;
      known = asked allowed (entry_refused 1 code.Handle) two second;
      cipher = (neither (audits e.attributes) (uses_cipher e.attributes) other).1;
    }))))

pub only_is : (entries : List Entry) → AllByRecursion IsEntry entries
    → IfOk (only_entry entries) IsPlain
unfolding only_entry
only_is [] are = tt
only_is (e ∷ []) are = ok_then (λ u. IsPlain e) IsPlain (first_passes e) _ (plain_is e are.0)
    (λ valid plain. plain)
only_is (e ∷ f ∷ more) are = ok_bind IsPlain (first_passes e) _ (λ valid. tt)

pub two_are : (entries : List Entry) → AllByRecursion IsEntry entries
    → IfOk (two_entries entries) (λ both. IsPlain both.0)
unfolding two_entries
two_are [] are = tt
two_are (e ∷ []) are = ok_bind _ (first_passes e) _ (λ valid. tt)
two_are (e ∷ f ∷ more) are =
    ok_then (λ u. IsPlain e) (λ (both : Entry × Entry). IsPlain both.0) (first_passes e) _
    (plain_is e are.0) (λ valid plain.
    ok_bind (λ (both : Entry × Entry). IsPlain both.0) (entry_passes 2 (is_password f) f) _
    (λ second.
    ok_bind (λ (both : Entry × Entry). IsPlain both.0)
    (refused_if (not (length more == 0)) (entry_refused 3 code.Handle)) _ (λ third. plain)))

-- the entry that the layer sends
pub sent_plain : (r : Record) (asked sent : Covered) (e : Entry) → IsPlain e
    → IsPlain (entry_sent r asked sent e)
sent_plain r asked sent e is = record {
  entry = record {
    session = is.entry.session;
    nonce = is.entry.nonce;
    attributes = is.entry.attributes;
    hmac = by (session_of r e);
  };
  known = is.known;
  cipher = is.cipher;
}
  where
    by : (found : Option Session)
        → length (option_map_or (λ (s : Session). sent_hmac s asked sent e) found e.hmac) < 2 ^ 16
    by None = is.entry.hmac
    by (Some s) = omega (arith, few_bytes s asked sent e)

-- ---- a command with one entry

abbrev pub with_one : CommandCode → List Handle → Entry → (parameters : List ℕ) → Whole
with_one code handles e parameters = record {
  code = code;
  handles = handles;
  entries = e ∷ [];
  parameters = parameters;
}

-- the encoding of the command
abbrev pub one_text : CommandCode → List Handle → Entry → (parameters : List ℕ) → List ℕ
one_text code handles e parameters =
    framed_message 0x8002 (code_number code)
    (flat_map handle_text handles ++ area_of e ++ parameters)

module _ (c : CommandCode) (handles : List Handle) (e : Entry) (parameters : List ℕ) where
  abbrev whole : Whole
  whole = with_one c handles e parameters

  body_is : command_body_text whole ≡ flat_map handle_text handles ++ area_of e ++ parameters
  body_is =
      command_body_text-is whole
      ∙ ap (λ (entries : List ℕ). flat_map handle_text handles
      ++ (to_be_bytes w32 (length entries) ++ entries) ++ parameters)
      (append-nil (auth_entry_text e))

  text_is : command_text whole ≡ one_text c handles e parameters
  unfolding header_text
  text_is =
      command_text-is whole
      ∙ ap (λ (size : ℕ). header_text Sessions size c ++ command_body_text whole)
      (command_size-is whole)
      ∙ ap (λ (body : List ℕ). header_text Sessions (10 + length body) c ++ body) body_is

  size_is : command_size whole ≡ length (one_text c handles e parameters)
  size_is = omega (arith, command_size-is whole, ap length body_is)

-- ---- the command that the device decodes and accepts

-- a command that is decoded fits in the device's command buffer
header_fits : (buffer : List ℕ) → IfOk (header_at buffer) (λ h. length buffer ≤ buffer_limit)
unfolding header_at
header_fits buffer =
    let long : Bool = nat_lt (length buffer) 10 || nat_lt buffer_limit (length buffer) in
    ok_bind_is (λ h. length buffer ≤ buffer_limit) (refused_if long fault.Length) _ (λ u is.
    ok_bind (λ h. length buffer ≤ buffer_limit) (ok_or (tag_named (tag_field buffer)) fault.Tag) _
    (λ tag.
    ok_bind (λ h. length buffer ≤ buffer_limit)
    (refused_if (not (size_field buffer == length buffer)) fault.Size) _ (λ size.
    ok_bind (λ h. length buffer ≤ buffer_limit) (ok_or (code_named (code_field buffer)) fault.Code)
    _ (λ code.
    ltb-false _ _ (neither (nat_lt (length buffer) 10) (nat_lt buffer_limit (length buffer))
    (passed long fault.Length u is)).1))))

command_fits : (buffer : List ℕ) → IfOk (command_at buffer) (λ c. length buffer ≤ buffer_limit)
unfolding command_at
command_fits buffer = by (header_at buffer) (header_fits buffer)
  where
    by : (x : Result (Header × List ℕ) HeaderFault) → IfOk x (λ h. length buffer ≤ buffer_limit)
        → IfOk (header_or_rc x >>= λ header. handles_at 1 (handle_count header.0.code) header.1
        >>= λ handles. sessions_at header.0.tag handles.1
        >>= λ entries. Ok (let y : Whole × List ℕ = (
          record {
            code = header.0.code;
            handles = handles.0;
            entries =
                entries.0;
            parameters = entries.1;
          },
          [],
        ) in y))
        (λ c. length buffer ≤ buffer_limit)
    by (Ok h) fits = ok_bind _ (handles_at 1 (handle_count h.0.code) h.1) _
        (λ handles. ok_bind _ (sessions_at h.0.tag handles.1) _ (λ entries. fits))
    by (Err f) fits = tt

acceptance_command : (t : Record) (c : Whole) (locality : ℕ) (random : List ℕ)
    → IfOk (acceptance t c locality random) (λ a. a.command ≡ c)
unfolding acceptance
acceptance_command t c locality random =
    ok_bind _ (authorize t c locality) _ (λ grants.
    ok_bind _ (row_of t c.code (request_in t c grants locality random)) _ (λ success. refl))

accepted_reads : (t : Record) (buffer : List ℕ) (locality : ℕ) (random : List ℕ)
    → IfOk (acceptance_in t buffer locality random) (λ a. command_at buffer ≡ Ok (a.command, []))
unfolding acceptance_in
accepted_reads t buffer locality random =
    ok_then (λ c. command_at buffer ≡ Ok (c, [])) _ (general t buffer) _ (general_reads t buffer)
    (λ c reads.
    ok_in_command _ c.code (acceptance t c locality random)
    (ok_weaker (λ a. a.command ≡ c) _ (acceptance t c locality random)
    (acceptance_command t c locality random)
    (λ a same. subst (λ (d : Whole). command_at buffer ≡ Ok (d, [])) (sym same) reads)))

-- an accepted command with one entry is the command that was sent
pub accepted_one : (t : Record) (code : CommandCode) (handles : List Handle) (e : Entry)
    (parameters : List ℕ) (locality : ℕ) (random : List ℕ) → length handles ≡ handle_count code
    → AllByRecursion IsHandle handles → IsEntry e
    → IfOk (acceptance_in t (one_text code handles e parameters) locality random)
    (λ a. a.command ≡ with_one code handles e parameters)
accepted_one t code handles e parameters locality random many fit is =
    let c : Whole = with_one code handles e parameters in
    let buffer : List ℕ = one_text code handles e parameters in
    ok_weaker (λ a. command_at buffer ≡ Ok (a.command, [])) _
    (acceptance_in t buffer locality random)
    (accepted_reads t buffer locality random) (λ a reads.
    let fits : length buffer ≤ buffer_limit =
    ok_at (λ x. length buffer ≤ buffer_limit) (command_at buffer) (a.command, [])
    (command_fits buffer) reads in
    let size = size_is code handles e parameters in
    let one : IsCommand c = record {
      handle_count = many;
      handles = fit;
      entry_count = omega arith;
      entries = (is, tt);
      size = omega (arith, size, fits);
    } in
    ap (λ (x : Whole × List ℕ). x.0)
    (ok_is {E = Rc} (a.command, []) (c, [])
    (sym reads ∙ ap command_at (sym (text_is code handles e parameters)) ∙ command_again c one)))

-- the number of every check is greater than 0
pub check_some : (c : Check) → check_number c ≡ 0 → ⊥
check_some check.Length zero = absurd cc
check_some check.Tag zero = absurd cc
check_some check.Size zero = absurd cc
check_some check.Code zero = absurd cc
check_some check.Started zero = absurd cc
check_some check.Handles zero = absurd cc
check_some check.Sessions zero = absurd cc
check_some check.Entries zero = absurd cc
check_some check.Authorization zero = absurd cc
check_some check.Others zero = absurd cc
check_some check.Parameters zero = absurd cc
check_some (check.Action a) zero = omega (arith, zero)
check_some check.Memory zero = absurd cc

-- ---- a password is no session

apart : (kind : SessionType) → (kind_of 0x4000_0009 == type_byte kind) ≡ false
apart type.Hmac = refl
apart type.Policy = refl
apart type.Trial = refl

pub no_session : (places : List (Option Session)) (handle : Handle)
    → (handle.number == password_handle.number) ≡ true → session_at places handle ≡ None
unfolding session_at at_number
no_session places handle is = by (at_place places (place_of handle.number))
  where
    by : (o : Option Session) → option_and_then (if_of_kind session_byte handle.number) o ≡ None
    by None = refl
    by (Some s) =
        ap (λ (n : ℕ). if kind_of n == session_byte s then Some s else None)
        (eqb-true handle.number password_handle.number is)
        ∙ ap (λ (b : Bool). if b then Some s else None) (apart s.kind)

-- Parsing the buffer of a line yields the command that the line encodes.
use Rattle.tpm_types_common.specs.Limits.{buffer_limit}
use Rattle.std.proofs.Common.{◌≡◌, ℕ, zero, suc, ◌<◌, ◌≤◌, ◌^◌, Bool, true, false, cond, List, [], ◌∷◌, length, drop, Result, Ok, Err, refl, ap, subst, arith, length-append}
use Rattle.std.specs.Int.{Width, w8, w32, from_be_bytes, to_be_bytes}
use Rattle.std.specs.List.{AllByRecursion}
use Rattle.std.specs.Prelude.{◌==◌, not, ok_or}
use Rattle.tpm_bytes.specs.Reading.{◌>>=◌, refused_if}
use Rattle.tpm_bytes.proofs.Fields.{IsWide, bind_ok, ok_is, or_fault_ok, passed, wide32, wide8}
use Rattle.hex.proofs.HexLemmas.{decode_of-ok}
use Rattle.tpm_types_common.specs.declared.handle.Handle.{Handle}
use Rattle.tpm_types_common.specs.Handle.{endorsement_handle, lockout_handle, null_handle, owner_handle, password_handle, platform_handle}
use Rattle.tpm_types_command.specs.AuthArea.{entries_text}
use Rattle.tpm_types_command.specs.AuthEntry.{Entry, IsEntry, auth_entry_text}
use Rattle.tpm_types_command.specs.Command.{IsCommand, IsHandle, Whole, command_size, command_text, served_command_at, sessions_text}
use Rattle.tpm_commands.specs.CommandCode.{code_called, handle_count, serves, shape_of}
use Rattle.tpm_commands.specs.declared.command_code.CommandCode.{CommandCode}
use Rattle.tpm_commands.specs.declared.profile.Profile.{Profile}
use Rattle.tpm_text.specs.declared.fault.AsmFault.TheVariants.{BadName}
use Rattle.tpm_types_command.proofs.CommandLaws.{command_size-is, length-body, served_again}
use Rattle.tpm_types_command.proofs.EntryLaws.{length-auth_entry_text}
use Rattle.tpm_number.specs.declared.fault.TokenFault.{TokenFault}
use Rattle.tpm_number.specs.declared.fault.TokenFault.TheVariants.{Bad}
use Rattle.tpm_text.specs.Entry.{begins_entry, begins_password, begins_session, entry_in, handle_in, hex_handle_in, octet_in, password_entry, session_entry, session_pieces_of}
use Rattle.tpm_text.specs.Fault.{at_column}
use Rattle.tpm_text.specs.Line.{end_of_line, entry_tokens_in, handles_in, name_in, parameters_in, spelled_for}
use Rattle.tpm_text.specs.Hex.{bytes_in, hex_in}
use Rattle.tpm_text.specs.Pieces.{Token, colon, pieces_of, tokens_of}
use Rattle.tpm_text.proofs.Laid.{column_ok}

-- ---- numbers

hex_below : (w : Width) (limit : ℕ) → IsWide w limit → (digits bytes : List ℕ)
    → hex_in digits ≡ Ok bytes → from_be_bytes w bytes < limit
hex_below w limit wide digits bytes e =
    wide.below bytes (decode_of-ok digits bytes (or_fault_ok _ _ bytes e)).3

hex_handle_below : (token : List ℕ) (handle : Handle) → hex_handle_in token ≡ Ok handle
    → handle.number < 2 ^ 32
unfolding hex_handle_in
hex_handle_below token handle e =
    let eight = bind_ok (refused_if (not (length token == 8)) Bad) _ handle e in
    let bytes = bind_ok (hex_in token) _ handle eight.2 in
    subst (λ (h : Handle). h.number < 2 ^ 32) (ok_is _ handle bytes.2)
    (hex_below w32 (2 ^ 32) wide32 token bytes.0 bytes.1)

named_below : (b : Bool) (known handle : Handle) (rest : Result Handle TokenFault)
    → known.number < 2 ^ 32 → (rest ≡ Ok handle → handle.number < 2 ^ 32)
    → cond b (Ok known) rest ≡ Ok handle → handle.number < 2 ^ 32
named_below true known handle rest small others e =
    subst (λ (h : Handle). h.number < 2 ^ 32) (ok_is known handle e) small
named_below false known handle rest small others e = others e

handle_below : (token : List ℕ) (handle : Handle) → handle_in token ≡ Ok handle
    → handle.number < 2 ^ 32
unfolding handle_in
handle_below token handle e =
    named_below _ owner_handle handle _ (omega arith)
    (named_below _ null_handle handle _ (omega arith)
    (named_below _ lockout_handle handle _ (omega arith)
    (named_below _ endorsement_handle handle _ (omega arith)
    (named_below _ platform_handle handle _ (omega arith) (hex_handle_below token handle))))) e

octet_below : (piece : List ℕ) (octet : ℕ) → octet_in piece ≡ Ok octet → octet < 2 ^ 8
unfolding octet_in
octet_below piece octet e =
    let two = bind_ok (refused_if (not (length piece == 2)) Bad) _ octet e in
    let bytes = bind_ok (hex_in piece) _ octet two.2 in
    subst (λ n. n < 2 ^ 8) (ok_is _ octet bytes.2)
    (hex_below w8 (2 ^ 8) wide8 piece bytes.0 bytes.1)

-- ---- entries

-- The handle and the attributes of an entry fit their fields. The lemma `sized_entries` covers the
-- sizes of its nonce and HMAC.
abbrev Spells : Entry → Type 0
Spells entry = (entry.session.number < 2 ^ 32) × (entry.attributes.octet < 2 ^ 8)

password_spells : (password : List ℕ) (entry : Entry) → password_entry password ≡ Ok entry
    → Spells entry
unfolding password_entry
password_spells password entry e =
    let bytes = bind_ok (bytes_in password) _ entry e in
    subst Spells
    (ok_is (record {
      session = password_handle;
      nonce = [];
      attributes =
          record { octet = 1 };
      hmac = bytes.0;
    }) entry bytes.2) (omega arith, omega arith)

session_spells : (text : List ℕ) (entry : Entry) → session_entry text ≡ Ok entry → Spells entry
unfolding session_entry
session_spells text entry e =
    let pieces = bind_ok (session_pieces_of (pieces_of colon text)) _ entry e in
    let session = bind_ok (handle_in pieces.0.session) _ entry pieces.2 in
    let nonce = bind_ok (bytes_in pieces.0.nonce) _ entry session.2 in
    let octet = bind_ok (octet_in pieces.0.attributes) _ entry nonce.2 in
    let hmac = bind_ok (bytes_in pieces.0.hmac) _ entry octet.2 in
    subst Spells (ok_is _ entry hmac.2) (
      handle_below pieces.0.session session.0 session.1,
      octet_below pieces.0.attributes octet.0 octet.1,
    )

entry_spells : (token : List ℕ) (entry : Entry) → entry_in token ≡ Ok entry → Spells entry
unfolding entry_in
entry_spells token entry e = by (begins_password token) (begins_session token) e
  where
    by : (password session : Bool)
        → cond password (password_entry (drop 3 token))
        (cond session (session_entry (drop 2 token)) (Err Bad)) ≡ Ok entry → Spells entry
    by true session e = password_spells (drop 3 token) entry e
    by false true e = session_spells (drop 2 token) entry e
    by false false e = absurd cc

entries_spell : (most : ℕ) (tokens : List Token) (x : List Entry × List Token)
    → entry_tokens_in most tokens ≡ Ok x → (length x.0 ≤ most) × AllByRecursion Spells x.0
unfolding entry_tokens_in
entries_spell zero tokens x e =
    subst (λ (x : List Entry × List Token). (length x.0 ≤ 0) × AllByRecursion Spells x.0)
    (ok_is ([], tokens) x e) (omega arith, tt)
entries_spell (suc most) [] x e =
    subst (λ (x : List Entry × List Token). (length x.0 ≤ suc most) × AllByRecursion Spells x.0)
    (ok_is ([], []) x e) (omega arith, tt)
entries_spell (suc most) (token ∷ tokens) x e =
    by (entries_spell most tokens) (begins_entry token.text) e
  where
    by : ((y : List Entry × List Token) → entry_tokens_in most tokens ≡ Ok y
        → (length y.0 ≤ most) × AllByRecursion Spells y.0)
        → (b : Bool)
        → cond b (at_column token.column (entry_in token.text)
        >>= λ first. entry_tokens_in most tokens
        >>= λ others. Ok (first ∷ others.0, others.1)) (Ok ([], token ∷ tokens)) ≡ Ok x
        → (length x.0 ≤ suc most) × AllByRecursion Spells x.0
    by fewer true e =
        let first = bind_ok (at_column token.column (entry_in token.text)) _ x e in
        let others = bind_ok (entry_tokens_in most tokens) _ x first.2 in
        let rest = fewer others.0 others.1 in
        let one = entry_spells token.text first.0
        (column_ok token.column (entry_in token.text) first.0 first.1) in
        subst (λ (x : List Entry × List Token). (length x.0 ≤ suc most) × AllByRecursion Spells x.0)
        (ok_is (first.0 ∷ others.0.0, others.0.1) x others.2)
        (omega (arith, rest.0), (one, rest.1))
    by fewer false e =
        subst (λ (x : List Entry × List Token). (length x.0 ≤ suc most) × AllByRecursion Spells x.0)
        (ok_is ([], token ∷ tokens) x e) (omega arith, tt)

-- If all entries together fit in 65,535 bytes, the sizes of each entry's nonce and HMAC fit in 16
-- bits.
sized_entries : (entries : List Entry) → AllByRecursion Spells entries
    → length (entries_text entries) < 2 ^ 16 → AllByRecursion IsEntry entries
sized_entries [] each small = tt
sized_entries (entry ∷ entries) each small =
    let size = length-append (auth_entry_text entry) (entries_text entries) in
    let own = length-auth_entry_text entry in (
      record {
        session = each.0.0;
        nonce = omega (arith, small, size, own);
        attributes =
            each.0.1;
        hmac = omega (arith, small, size, own);
      },
      sized_entries entries each.1 (omega (arith, small, size)),
    )

-- ---- handles

handles_spell : (count : ℕ) (tokens : List Token) (x : List Handle × List Token)
    → handles_in count tokens ≡ Ok x → (length x.0 ≡ count) × AllByRecursion IsHandle x.0
unfolding handles_in
handles_spell zero tokens x e =
    subst (λ (x : List Handle × List Token). (length x.0 ≡ 0) × AllByRecursion IsHandle x.0)
    (ok_is ([], tokens) x e) (refl, tt)
handles_spell (suc count) [] x e = absurd cc
handles_spell (suc count) (token ∷ tokens) x e =
    let first =
    bind_ok (at_column token.column (handle_in token.text) >>= λ value. Ok (value, tokens)) _ x
    e in
    let value = bind_ok (at_column token.column (handle_in token.text)) _ first.0 first.1 in
    let same = ok_is (value.0, tokens) first.0 value.2 in
    let others = bind_ok (handles_in count first.0.1) _ x first.2 in
    let rest = handles_spell count first.0.1 others.0 others.1 in
    let one = handle_below token.text value.0
    (column_ok token.column (handle_in token.text) value.0 value.1) in
    subst (λ (x : List Handle × List Token). (length x.0 ≡ suc count) × AllByRecursion IsHandle x.0)
    (ok_is (first.0.0 ∷ others.0.0, others.0.1) x others.2)
    (ap suc rest.0, (subst (λ (p : Handle × List Token). p.0.number < 2 ^ 32) same one, rest.1))

-- ---- the command

not_false : (b : Bool) → not b ≡ false → b ≡ true
not_false true e = refl
not_false false e = absurd cc

sessions_size : (entries : List Entry) → length (entries_text entries)
    ≤ length (sessions_text entries)
sessions_size [] = omega arith
sessions_size (entry ∷ entries) =
    omega (
      arith,
      length-append (to_be_bytes w32 (length (entries_text (entry ∷ entries))))
          (entries_text (entry ∷ entries)),
    )

spelled_is_command : (profile : Profile) (line : List ℕ) (c : Whole)
    → spelled_for profile line ≡ Ok c → command_size c ≤ buffer_limit → IsCommand c
unfolding spelled_for
spelled_is_command profile line c e small =
    let name = bind_ok (name_in profile (tokens_of line)) _ c e in
    let handles = bind_ok (handles_in (handle_count name.0.0) name.0.1) _ c name.2 in
    let entries = bind_ok (entry_tokens_in 3 handles.0.1) _ c handles.2 in
    let parameters = bind_ok (parameters_in (shape_of name.0.0).parameters entries.0.1) _ c
    entries.2 in
    let whole = bind_ok (end_of_line parameters.0.1) _ c parameters.2 in
    let h = handles_spell (handle_count name.0.0) name.0.1 handles.0 handles.1 in
    let s = entries_spell 3 handles.0.1 entries.0 entries.1 in
    let is =
    ok_is (record {
      code = name.0.0;
      handles = handles.0.0;
      entries = entries.0.0;
      parameters =
          parameters.0.0;
    }) c whole.2 in
    let within : length (entries_text c.entries) ≤ buffer_limit =
    omega (arith, small, command_size-is c, length-body c, sessions_size c.entries) in
    record {
      handle_count = subst (λ (c : Whole). length c.handles ≡ handle_count c.code) is h.0;
      handles = subst (λ (c : Whole). AllByRecursion IsHandle c.handles) is h.1;
      entry_count = subst (λ (c : Whole). length c.entries ≤ 3) is s.0;
      entries =
          sized_entries c.entries (subst (λ (c : Whole). AllByRecursion Spells c.entries) is s.1)
          (omega (arith, within));
      size = small;
    }

-- a line names a command that a device of the profile serves
name_served : (profile : Profile) (tokens : List Token) (x : CommandCode × List Token)
    → name_in profile tokens ≡ Ok x → serves profile x.0 ≡ true
name_served profile [] x e = absurd cc
name_served profile (token ∷ tokens) x e =
    let named = bind_ok (ok_or (code_called token.text) BadName) _ x e in
    let served = bind_ok (refused_if (not (serves profile named.0)) BadName) _ x named.2 in
    subst (λ (y : CommandCode × List Token). serves profile y.0 ≡ true)
    (ok_is (named.0, tokens) x served.2)
    (not_false (serves profile named.0)
    (passed (not (serves profile named.0)) BadName served.0 served.1))

spelled_served : (profile : Profile) (line : List ℕ) (c : Whole) → spelled_for profile line ≡ Ok c
    → serves profile c.code ≡ true
unfolding spelled_for
spelled_served profile line c e =
    let name = bind_ok (name_in profile (tokens_of line)) _ c e in
    let handles = bind_ok (handles_in (handle_count name.0.0) name.0.1) _ c name.2 in
    let entries = bind_ok (entry_tokens_in 3 handles.0.1) _ c handles.2 in
    let parameters = bind_ok (parameters_in (shape_of name.0.0).parameters entries.0.1) _ c
    entries.2 in
    let whole = bind_ok (end_of_line parameters.0.1) _ c parameters.2 in
    subst (λ (c : Whole). serves profile c.code ≡ true)
    (ok_is (record {
      code = name.0.0;
      handles = handles.0.0;
      entries = entries.0.0;
      parameters = parameters.0.0;
    }) c whole.2) (name_served profile (tokens_of line) name.0 name.1)

-- If a line encodes a command of a profile, parsing the encoding yields that command.
pub spelled_again : (profile : Profile) (line : List ℕ) (c : Whole)
    → spelled_for profile line ≡ Ok c → command_size c ≤ buffer_limit
    → served_command_at profile (command_text c) ≡ Ok (c, [])
spelled_again profile line c e small =
    served_again profile c (spelled_is_command profile line c e small)
    (spelled_served profile line c e)

-- How a command on sequence objects is authorized: by one entry for each handle that needs
-- authorization. The first entry contains a password or names an HMAC session, a second entry
-- contains a password. TPM 2.0 Library, Part 3, section 5.5 (session area validation) and 5.6
-- (authorization checks), and Part 1, section 32.4 (sequence objects).
use Rattle.std.specs.Prelude.{ℕ, ◌==◌, ◌&&◌, ◌||◌, nat_lt, not, Bool, List, [], ◌∷◌, length, Result, Ok, Err, ok_or}
use Rattle.std.specs.Int.{w32}
use Rattle.tpm_bytes.specs.Reading.{◌>>=◌, number_at, or_fault, refused_if}
use Rattle.tpm_auth.specs.Entries.{is_password}
use Rattle.tpm_types_common.specs.Handle.{is_policy_session, is_session, is_transient, numbered_handle}
use Rattle.tpm_types_common.specs.Rc.{at, entry_fault, plain}
use Rattle.tpm_types_common.specs.Refused.{checked_result, refusal}
use Rattle.tpm_types_common.specs.SessionAttributes.{audits, has_reserved_bits, uses_cipher}
use Rattle.tpm_types_common.specs.declared.check.Check.TheVariants as check
use Rattle.tpm_types_common.specs.declared.handle.Handle.{Handle}
use Rattle.tpm_types_common.specs.declared.rc.Place.TheVariants as place
use Rattle.tpm_types_common.specs.declared.rc.ResponseCode.{ResponseCode}
use Rattle.tpm_types_common.specs.declared.rc.ResponseCode.TheVariants as code
use Rattle.tpm_types_common.specs.declared.refused.Refused.{Refused}
use Rattle.tpm_types_command.specs.AuthArea.{area_at}
use Rattle.tpm_types_command.specs.AuthEntry.{Entry}
use Rattle.tpm_completion.specs.Sequences.{slot_of}
use Rattle.tpm_completion.specs.declared.completion.Completion.{Completion}

-- ---- refusals

-- check G6's refusal of handle n
abbrev pub handle_refused : ℕ → ResponseCode → Refused
handle_refused n fault = refusal check.Handles (at (place.Handle n) (plain fault))

-- check G8's refusal of entry n
abbrev pub entry_refused : ℕ → ResponseCode → Refused
entry_refused n fault = refusal check.Entries (entry_fault n fault)

-- check G9's refusal of a wrong password in entry n. It is not a failed try, because sequence
-- objects are not protected against dictionary attacks
abbrev pub password_refused : ℕ → Refused
password_refused n = refusal check.Authorization (entry_fault n code.BadAuth)

-- check G7's refusal if an entry is missing
abbrev pub missing_refused : Refused
missing_refused = refusal check.Sessions (plain code.AuthMissing)

-- check G6's refusal if handle 1 or handle 2 does not name a sequence object; `reference` says
-- which handle
abbrev pub absent_refused : ResponseCode → Refused
absent_refused reference = refusal check.Handles (plain reference)

-- ---- handles

-- handle n of a command, and the bytes after it; INSUFFICIENT if the handle is truncated
unfoldable pub handle_at : (n : ℕ) → List ℕ → Result (Handle × List ℕ) Refused
handle_at n text = do
  number ← or_fault (number_at w32 text) (handle_refused n code.Insufficient)
  Ok (numbered_handle number.0, number.1)

-- the slot of the sequence object that handle n of a command names. The refusal is VALUE if the
-- handle is not a transient object's, and `reference` if it does not name a sequence object
unfoldable pub sequence_named : Completion → (n : ℕ) → (reference : ResponseCode) → Handle
    → Result ℕ Refused
sequence_named c n reference handle = do
  transient ← refused_if (not (is_transient handle)) (handle_refused n code.Value)
  ok_or (slot_of c handle) (absent_refused reference)

-- ---- entries

-- the entries at the start of the bytes, and the remaining bytes; AUTHSIZE if the authorization
-- area is malformed
unfoldable pub entries_at : List ℕ → Result (List Entry × List ℕ) Refused
entries_at text = checked_result check.Entries (area_at text)

-- whether an entry names an HMAC session. The session need not exist
abbrev pub names_hmac_session : Entry → Bool
names_hmac_session e = is_session e.session && not (is_policy_session e.session)

-- the checks of entry n. They refuse with SIZE if the nonce, or the HMAC or password, has more than
-- 32 bytes; with HANDLE if the handle in the entry is not allowed; with RESERVED_BITS or ATTRIBUTES
-- if an attribute other than continueSession is set
unfoldable pub entry_passes : (n : ℕ) → (allowed : Bool) → Entry → Result (Unit {0}) Refused
entry_passes n allowed e = do
  sizes ← refused_if (nat_lt 32 (length e.nonce) || nat_lt 32 (length e.hmac))
      (entry_refused n code.Size)
  handle ← refused_if (not allowed) (entry_refused n code.Handle)
  reserved ← refused_if (has_reserved_bits e.attributes) (entry_refused n code.ReservedBits)
  refused_if (audits e.attributes || uses_cipher e.attributes) (entry_refused n code.Attributes)

-- the checks of the first entry, which contains a password or names an HMAC session
abbrev pub first_passes : Entry → Result (Unit {0}) Refused
first_passes e = entry_passes 1 (is_password e || names_hmac_session e) e

-- the only entry of a command with one handle. A second entry authorizes nothing, and is refused
-- with HANDLE
unfoldable pub only_entry : List Entry → Result Entry Refused
only_entry [] = Err missing_refused
only_entry (e ∷ []) = do
  valid ← first_passes e
  Ok e
only_entry (e ∷ f ∷ more) = do
  valid ← first_passes e
  Err (entry_refused 2 code.Handle)

-- the two entries of a command with two handles. The second contains a password. A missing second
-- entry is refused with AUTH_MISSING, a third entry with HANDLE
unfoldable pub two_entries : List Entry → Result (Entry × Entry) Refused
two_entries [] = Err missing_refused
two_entries (e ∷ []) = do
  valid ← first_passes e
  Err missing_refused
two_entries (e ∷ f ∷ more) = do
  first ← first_passes e
  second ← entry_passes 2 (is_password f) f
  third ← refused_if (not (length more == 0)) (entry_refused 3 code.Handle)
  Ok (e, f)

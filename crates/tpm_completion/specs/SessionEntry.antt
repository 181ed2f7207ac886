-- How an HMAC session authorizes a command on sequence objects, which only the layer supports. The
-- layer checks the HMAC of the client's entry. Then it sends the device a command with the same
-- session, whose HMAC is right if and only if the client's is. So the device itself accepts or
-- refuses the session, counts a failed try, and changes the session's nonce. TPM 2.0 Library, Part
-- 1, sections 18.7 (cpHash), 18.8 (rpHash), 19.6.5 (HMAC computation) and 32.4 (the Name of a
-- sequence object is empty).
use Rattle.std.specs.Prelude.{ℕ, ◌==◌, ◌&&◌, ◌||◌, not, Bool, List, [], ◌∷◌, ◌++◌, drop, length, if◌then◌else◌, Option, Some, None, Result, Ok, Err, option_map}
use Rattle.std.specs.Int.{w32, to_be_bytes}
use Rattle.std.specs.Option.{option_map_or}
use Rattle.std.specs.Str.{bytes_eq}
use Rattle.tpm_auth.specs.Entries.{session_of}
use Rattle.tpm_auth.specs.SessionGrant.{used_auth_value}
use Rattle.tpm_bytes.specs.Reading.{number_at, sized_at}
use Rattle.tpm_bytes.specs.Writing.{sized_text}
use Rattle.tpm_bytes.specs.declared.cursor.Short.{Short}
use Rattle.tpm_bytes.specs.declared.cursor.SizedFault.{SizedFault}
use Rattle.tpm_mac.specs.Digest.{hash_of}
use Rattle.tpm_mac.specs.Hmac.{hmac_of}
use Rattle.tpm_mac.specs.declared.algorithm.HashAlg.{HashAlg}
use Rattle.tpm_policy.specs.declared.state.Demand.TheVariants as demand
use Rattle.tpm_record.specs.Record.{Record}
use Rattle.tpm_session.specs.EntryText.{EntryParts, command_mac_of, entry_key, entry_text}
use Rattle.tpm_session.specs.ParameterHash.{response_hash_of}
use Rattle.tpm_session.specs.declared.session.Session.{Session}
use Rattle.tpm_step.specs.step.Entries.{password_answer}
use Rattle.tpm_types_common.specs.declared.handle.Handle.{Handle}
use Rattle.tpm_types_command.specs.AuthEntry.{Entry}
use Rattle.tpm_completion.specs.declared.session_entry.Covered as declared
use Rattle.tpm_completion.specs.declared.session_entry.EntryAnswer.{EntryAnswer}

-- ---- the HMAC of a command

-- what the HMAC of a command's session covers: the command's code, the Names of its handles joined,
-- and its parameters; and the authorization value in the HMAC's key
pub record Covered : Type 0 where
  pub code : ℕ
  pub names : List ℕ
  pub parameters : List ℕ
  pub value : List ℕ

abbrev pub covered_of : declared.Covered → Covered
covered_of c = record {
  code = c.code;
  names = c.names.now;
  parameters = c.parameters.now;
  value = c.value.now;
}

-- cpHash
unfoldable pub covered_hash : HashAlg → Covered → List ℕ
covered_hash hash c = hash_of hash (to_be_bytes w32 c.code ++ c.names ++ c.parameters)

abbrev pub covered_parts : Session → Covered → Entry → EntryParts
covered_parts s c e = record {
  hash = covered_hash s.hash c;
  nonce_caller = e.nonce;
  decrypt_nonce = [];
  encrypt_nonce = [];
  attributes = e.attributes;
}

-- the HMAC for an entry that names the session
unfoldable pub covered_mac : Session → Covered → Entry → List ℕ
covered_mac s c e = command_mac_of s c.value (covered_parts s c e)

-- whether the HMAC in an entry is right: it is the computed HMAC, or both the key and the HMAC in
-- the entry are empty
unfoldable pub is_right : Session → Covered → Entry → Bool
is_right s c e =
    length (entry_key s c.value) == 0 && length e.hmac == 0
    || bytes_eq e.hmac (covered_mac s c e)

-- the HMAC in the entry of the command that the layer sends. If the client's HMAC is wrong, it is
-- one byte, which is neither empty nor the size of an HMAC. If the client's HMAC is right and
-- empty, it is empty
unfoldable pub sent_hmac : Session → (asked sent : Covered) → Entry → List ℕ
sent_hmac s asked sent e =
    if not (is_right s asked e) then 0 ∷ []
    else (if length e.hmac == 0 then [] else covered_mac s sent e)

-- the entry of the command that the layer sends. It is the client's entry, but if the entry names a
-- session, it has the HMAC for the sent command. The device refuses an entry whose session does not
-- exist
abbrev pub hmac_sent : Record → (asked sent : Covered) → Entry → List ℕ
hmac_sent r asked sent e =
    option_map_or (λ (s : Session). sent_hmac s asked sent e) (session_of r e) e.hmac

abbrev pub entry_sent : Record → (asked sent : Covered) → Entry → Entry
entry_sent r asked sent e = record e { hmac = hmac_sent r asked sent e }

-- the authorization value that the device puts into the HMAC key of an entry that authorizes a
-- handle; empty if the entry names no existing session
unfoldable pub value_in_key : Record → Entry → Handle → List ℕ
value_in_key r e handle =
    option_map_or
    (λ (s : Session). used_auth_value r s (Some (record { handle = handle; demand = demand.None })))
    (session_of r e) []

-- ---- the HMAC of the response

-- what the layer needs for the response to an entry that names a session. It is taken from the
-- session before the layer sends its command, which may end the session
abbrev pub answer_by : Covered → Entry → Session → EntryAnswer
answer_by asked e s = record {
  hash = s.hash;
  key = entry_key s asked.value;
  nonce_caller = e.nonce;
  attributes = e.attributes;
  has_hmac = not (length e.hmac == 0);
}

abbrev pub entry_answered : Record → Covered → Entry → Option EntryAnswer
entry_answered r asked e = option_map (answer_by asked e) (session_of r e)

-- the nonce in the device's response to the command that the layer sent. It follows the header, the
-- size of the parameters, and the parameters
abbrev pub nonce_or_none : Result (List ℕ × List ℕ) SizedFault → List ℕ
nonce_or_none (Ok nonce) = nonce.0
nonce_or_none (Err e) = []

abbrev pub nonce_after : Result (ℕ × List ℕ) Short → List ℕ
nonce_after (Ok size) = nonce_or_none (sized_at 32 (drop size.0 size.1))
nonce_after (Err e) = []

unfoldable pub nonce_in : (response : List ℕ) → List ℕ
nonce_in response = nonce_after (number_at w32 (drop 10 response))

-- the HMAC in the response to an entry: nonceTPM is the newer nonce. It is empty if the client's
-- HMAC was empty
unfoldable pub answer_hmac : EntryAnswer → (code : ℕ) → (parameters nonce : List ℕ) → List ℕ
answer_hmac a code parameters nonce =
    if a.has_hmac then
    hmac_of a.hash a.key
    (entry_text (response_hash_of a.hash code parameters) nonce a.nonce_caller [] [] a.attributes)
    else []

-- the response to an entry that names a session: the session's new nonce, the attributes of the
-- client's entry, and the HMAC
unfoldable pub session_text : EntryAnswer → (code : ℕ) → (parameters response : List ℕ) → List ℕ
session_text a code parameters response =
    sized_text (nonce_in response) ++ a.attributes.octet ∷ []
    ++ sized_text (answer_hmac a code parameters (nonce_in response))

-- the response to the first entry of a client's command with this code, whose answer has these
-- parameters; `response` is the device's response to the command that the layer sent
abbrev pub first_answer : Option EntryAnswer → (code : ℕ) → (parameters response : List ℕ) → List ℕ
first_answer (Some a) code parameters response = session_text a code parameters response
first_answer None code parameters response = password_answer

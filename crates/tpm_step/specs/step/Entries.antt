-- What a successful command does to the sessions in its authorization area, and its response to
-- each entry in that area. TPM 2.0 Library, Part 1, section 19.6 (session nonces and HMACs), and
-- Part 2, section 10.13.3 (TPMS_AUTH_RESPONSE).
use Rattle.std.specs.Prelude.{ℕ, ◌+◌, ◌≤◌, ◌==◌, ◌||◌, not, List, [], ◌∷◌, ◌++◌, length, take, drop, if◌then◌else◌, Option, is_some}
use Rattle.std.specs.List.{flat_map, fold}
use Rattle.std.specs.Option.{option_map_or}
use Rattle.tpm_bytes.specs.Writing.{sized_text}
use Rattle.tpm_mac.specs.declared.algorithm.HashAlg.{HashAlg}
use Rattle.tpm_policy.specs.State.{starting}
use Rattle.tpm_session.specs.declared.session.Session.{Session}
use Rattle.tpm_session.specs.EntryText.{response_mac_of}
use Rattle.tpm_session.specs.ParameterHash.{HashedParts, parameter_hash_of}
use Rattle.tpm_session.specs.Sessions.{sessions_after_roll, slots_without_session, with_session_policy}
use Rattle.tpm_types_common.specs.declared.session_type.SessionType.{SessionType}
use Rattle.tpm_types_common.specs.declared.session_type.SessionType.TheVariants as type
use Rattle.tpm_types_command.specs.AuthEntry.{Entry}
use Rattle.tpm_types_common.specs.SessionAttributes.{continues_session}
use Rattle.tpm_record.specs.Record.{Record}
use Rattle.tpm_auth.specs.Entries.{session_of}
use Rattle.tpm_auth.specs.declared.session_grant.Grant.{Grant}
use Rattle.tpm_auth.specs.SessionGrant.{demands_password, used_auth_value}
use Rattle.tpm_step.specs.step.Granted.{Granted}

-- the record after new nonces were drawn, and the remaining random bytes
pub record Drawn : Type 0 where
  pub after : Record
  pub left : List ℕ

-- the size of the next nonce of an entry's session, which is the size of its current nonce; 0 for a
-- password
unfoldable pub draw_of : Record → Entry → ℕ
draw_of r e = option_map_or (λ (s : Session). length s.nonce_tpm) (session_of r e) 0

-- the result of drawing a new nonce for an entry's session: the new record, and the remaining
-- random bytes
unfoldable pub entry_rolled : Record → Entry → List ℕ → Drawn
entry_rolled r e left = record {
  after =
      record r { sessions = sessions_after_roll r.sessions e.session (take (draw_of r e) left) };
  left = drop (draw_of r e) left;
}

-- the result of drawing a new nonce for the session of each entry, in order: the new record, and
-- the remaining random bytes
abbrev pub entries_rolled : Record → List Entry → List ℕ → Drawn
entries_rolled r [] left = record { after = r; left = left }
entries_rolled r (e ∷ es) left =
    let first = entry_rolled r e left in
    entries_rolled first.after es first.left

-- The command's row, and then the new nonces of its entries, together draw at most 192 of these
-- random bytes.
abbrev pub DrawsFew : List ℕ → Record → List Entry → (drawn : ℕ) → Type 0
DrawsFew random r entries drawn =
    length random ≤ length (entries_rolled r entries (drop drawn random)).left + 192

-- the response to an entry with a password: an empty nonce, continueSession, and an empty HMAC
abbrev pub password_answer : List ℕ
password_answer = 0 ∷ 0 ∷ 1 ∷ 0 ∷ 0 ∷ []

-- the HMAC in the response to an entry. Its key contains the entity's authorization value after the
-- command's effect. If the command changed this value, a session that was bound to the entity is no
-- longer bound to it. The HMAC is empty if the policy required a password. It is also empty if the
-- command's HMAC was empty, even if the key is no longer empty (a choice of this implementation)
unfoldable pub answer_mac : Record → HashedParts → Option Grant → Entry → Session → List ℕ
answer_mac device hashed grant entry session =
    if length entry.hmac == 0 || demands_password grant then []
    else response_mac_of session (used_auth_value device session grant)
    (parameter_hash_of session.hash hashed) entry.nonce entry.attributes

-- the response to an entry with a session: the new nonceTPM, the attributes of the command's entry,
-- and the HMAC
unfoldable pub session_answer : Record → HashedParts → Option Grant → Entry → Session → List ℕ
session_answer device hashed grant entry session =
    sized_text session.nonce_tpm ++ entry.attributes.octet ∷ []
    ++ sized_text (answer_mac device hashed grant entry session)

unfoldable pub entry_answer : Record → HashedParts → Option Grant → Entry → List ℕ
entry_answer device hashed grant entry =
    option_map_or (session_answer device hashed grant entry) (session_of device entry)
    password_answer

-- the responses to the entries of a command, given the grant of each entry
abbrev pub entries_answer : Record → HashedParts → List Granted → List ℕ
entries_answer r hashed granted = flat_map (λ g. entry_answer r hashed g.1 g.0) granted

-- the record after a session authorized a handle, which resets the policy of a policy session
abbrev pub restarted_by : SessionType → Record → Entry → HashAlg → Record
restarted_by type.Hmac r e hash = r
restarted_by type.Policy r e hash =
    record r { sessions = with_session_policy r.sessions e.session (starting hash) }
restarted_by type.Trial r e hash = r

unfoldable pub entry_restarted : Record → Entry → Record
entry_restarted r e =
    option_map_or (λ (s : Session). restarted_by s.kind r e s.hash) (session_of r e) r

-- the record after an entry. Without continueSession (bit 0), the entry's session ends; otherwise,
-- if the entry authorized a handle, the session's policy is reset
unfoldable pub entry_ended : Record → Entry → Option Grant → Record
entry_ended r e grant =
    if not (continues_session e.attributes)
    then record r { sessions = slots_without_session r.sessions e.session }
    else (if is_some grant then entry_restarted r e else r)

-- the record after all entries, in order
abbrev pub entries_ended : Record → List Granted → Record
entries_ended r granted = fold (λ after g. entry_ended after g.0 g.1) r granted

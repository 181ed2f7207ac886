-- The password or the HMAC that an entry of a command has to contain, given the history before the
-- command. TPM 2.0 Library, Part 1, sections 18.7 (cpHash), 19.4 (password authorizations) and
-- 19.6.5 (HMAC computation).
use Rattle.std.specs.Prelude.{◌≡◌, ◌⊎◌, ◌≤◌, ℕ, ◌+◌, ◌&&◌, Bool, false, List, [], ◌∷◌, ◌++◌, length, map, if◌then◌else◌, Option, Some, None, slice_get}
use Rattle.std.specs.List.{find}
use Rattle.std.specs.Option.{option_map_or}
use Rattle.std.specs.Str.{bytes_eq}
use Rattle.tpm_mac.specs.Hmac.{hmac_of}
use Rattle.tpm_mac.specs.declared.algorithm.HashAlg.{HashAlg}
use Rattle.tpm_session.specs.EntryText.{entry_text}
use Rattle.tpm_session.specs.ParameterHash.{command_hash_of}
use Rattle.tpm_types_common.specs.AuthValue.{trimmed}
use Rattle.tpm_types_common.specs.Handle.{session_kind}
use Rattle.tpm_types_common.specs.declared.handle.Handle.{Handle}
use Rattle.tpm_types_common.specs.declared.handle.SessionKind.TheVariants as kind
use Rattle.tpm_types_common.specs.declared.session_type.SessionType.TheVariants as type
use Rattle.tpm_types_command.specs.AuthEntry.{Entry}
use Rattle.tpm_types_command.specs.Command.{Whole}
use Rattle.tpm_commands.specs.CommandCode.{code_number}
use Rattle.tpm_auth.specs.Entries.{decrypts}
use Rattle.tpm_auth.specs.Grant.{authorized}
use Rattle.tpm_auth.specs.SessionGrant.{has_value_in_key, only_encrypts, other_entries}
use Rattle.tpm_step.specs.history.AuthValues.{auth_of}
use Rattle.tpm_step.specs.history.History.{AcceptedCommand, Done, History, ObjectPlaced, PowerCycled}
use Rattle.tpm_step.specs.history.Sessions.{Bound, LiveSession, policy_in, rolled_by, sessions_of}
use Rattle.tpm_step.specs.history.View.{name_in, view_name}

-- the handle, if any, that the entry at this position has to authorize; positions count from 0
abbrev pub used_in : Whole → ℕ → Option Handle
used_in c place = slice_get (authorized c) place

-- ---- a password

-- The hmac field of an entry contains the authorization value for the handle that the entry has to
-- authorize. Trailing zeros in the field are ignored; the authorization values of a history have no
-- trailing zeros.
abbrev pub HasPassword : History → AcceptedCommand → ℕ → Entry → Type 0
HasPassword history c place e =
    trimmed e.hmac ≡ option_map_or (auth_of history) (used_in c.command place) []

-- ---- the key of an HMAC

-- whether a session is bound to an entity with this Name and this authorization value
abbrev pub is_bound_to : LiveSession → (name auth_value : List ℕ) → Bool
is_bound_to s name auth_value =
    option_map_or (λ (b : Bound). bytes_eq b.name name && bytes_eq b.auth_value auth_value) s.bound
    false

-- the authorization value in the HMAC key of the entry at this position, given the handle that the
-- entry has to authorize
abbrev pub value_in_key : History → AcceptedCommand → ℕ → LiveSession → Option Handle → List ℕ
value_in_key history accepted place session None = []
value_in_key history accepted place session (Some handle) =
    let value : List ℕ = auth_of history handle in
    let is_bound : Bool = is_bound_to session (name_in accepted.views place) value in
    if has_value_in_key session.kind is_bound (policy_in session).demand then value else []

-- the HMAC key of the entry at this position: sessionKey || authValue
abbrev pub key_in : History → AcceptedCommand → ℕ → LiveSession → List ℕ
key_in history c place s = s.key ++ value_in_key history c place s (used_in c.command place)

-- ---- the message of an HMAC

-- cpHash: H(commandCode || Names of the handles || parameters as sent)
abbrev pub cp_hash_in : AcceptedCommand → HashAlg → List ℕ
cp_hash_in c hash =
    command_hash_of hash (code_number c.command.code) (map view_name c.views) c.command.parameters

-- the nonceTPM of an entry's session
abbrev pub entry_nonce : History → Entry → List ℕ
entry_nonce history e =
    option_map_or (λ (s : LiveSession). s.nonce_tpm) (sessions_of history e.session) []

-- the nonceTPM of the session of the first entry that passes a test, or empty if no entry passes it
abbrev pub nonce_where : History → (Entry → Bool) → List Entry → List ℕ
nonce_where history test entries = option_map_or (entry_nonce history) (find test entries) []

-- the message of an entry's HMAC: cpHash || nonceCaller || nonceTPM || nonceTPM of the decrypt
-- session || nonceTPM of the encrypt session || sessionAttributes
unfoldable pub text_in : History → AcceptedCommand → ℕ → Entry → LiveSession → List ℕ
text_in history accepted place entry session =
    let others : List Entry = other_entries accepted.command (place + 1) in
    entry_text (cp_hash_in accepted session.hash) entry.nonce session.nonce_tpm
    (nonce_where history decrypts others) (nonce_where history only_encrypts others)
    entry.attributes

-- ---- the HMAC of an entry

abbrev pub hmac_in : History → AcceptedCommand → ℕ → Entry → LiveSession → List ℕ
hmac_in history accepted place entry session =
    hmac_of session.hash (key_in history accepted place session)
    (text_in history accepted place entry session)

-- The entry contains the HMAC of its message with its key, or both its key and its HMAC are empty.
abbrev pub HasHmac : History → AcceptedCommand → ℕ → Entry → LiveSession → Type 0
HasHmac history accepted place entry session =
    (entry.hmac ≡ hmac_in history accepted place entry session)
    ⊎ ((key_in history accepted place session ≡ []) × (entry.hmac ≡ []))

-- ---- every command of a history

-- Each entry that names an HMAC session has the right HMAC, whether or not it authorizes a handle.
-- The command has 256 random bytes and draws at most 192. Therefore at least 64 are left after all
-- new nonces, and no nonce was cut short.
pub record ShowsHmacs (history : History) (c : AcceptedCommand) : Type 0 where
  pub hmacs : (place : ℕ) (e : Entry) (s : LiveSession)
      → slice_get c.command.entries place ≡ Some e → session_kind e.session ≡ kind.Session
      → sessions_of history e.session ≡ Some s → s.kind ≡ type.Hmac → HasHmac history c place e s
  pub left : 64 ≤ length (rolled_by c history (sessions_of history)).left

-- In each command of a history, the entries have the right HMACs, given the history before the
-- command.
abbrev pub AllShowHmacs : History → Type 0
AllShowHmacs [] = Unit {0}
AllShowHmacs (Done c ∷ history) = ShowsHmacs history c × AllShowHmacs history
AllShowHmacs (PowerCycled ∷ history) = AllShowHmacs history
AllShowHmacs (ObjectPlaced at object ∷ history) = AllShowHmacs history

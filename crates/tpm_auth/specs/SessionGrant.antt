-- What a session's entry authorizes. TPM 2.0 Library, Part 1, sections 19.6 (HMAC sessions), 19.7
-- (policies) and 19.8 (dictionary attacks), and Part 3, section 5.6 (authorization checks).
use Rattle.std.specs.Prelude.{ℕ, ◌-◌, ◌==◌, ◌&&◌, ◌||◌, not, nat_lt, Bool, true, false, List, [], length, map, drop, if◌then◌else◌, Option, Some, None, Result, Ok}
use Rattle.std.specs.List.{find}
use Rattle.std.specs.Option.{option_map_or}
use Rattle.std.specs.Str.{bytes_eq}
use Rattle.tpm_bytes.specs.Reading.{◌>>=◌, refused_if}
use Rattle.tpm_policy.specs.declared.state.Demand.{Demand}
use Rattle.tpm_policy.specs.declared.state.Demand.TheVariants as demand
use Rattle.tpm_policy.specs.Use.{UseParts, use_passes}
use Rattle.tpm_session.specs.declared.session.Binding.{Binding}
use Rattle.tpm_session.specs.declared.session.Protection.{Protection}
use Rattle.tpm_session.specs.declared.session.Protection.TheVariants as protection
use Rattle.tpm_session.specs.declared.session.Session.{Session}
use Rattle.tpm_session.specs.EntryText.{EntryParts, command_mac_of, entry_key}
use Rattle.tpm_session.specs.ParameterHash.{HashedParts, OfCommand, parameter_hash_of}
use Rattle.tpm_types_common.specs.declared.handle.Handle.{Handle}
use Rattle.tpm_types_common.specs.declared.rc.ResponseCode.TheVariants as code
use Rattle.tpm_types_common.specs.declared.session_type.SessionType.{SessionType}
use Rattle.tpm_types_common.specs.declared.session_type.SessionType.TheVariants as type
use Rattle.tpm_types_command.specs.AuthEntry.{Entry}
use Rattle.tpm_types_command.specs.Command.{Whole}
use Rattle.tpm_commands.specs.CommandCode.{authorized_handles, code_number, nv_use_at, role_at}
use Rattle.tpm_types_common.specs.Rc.{plain}
use Rattle.tpm_record.specs.declared.entity.Means.TheVariants as means
use Rattle.tpm_record.specs.Entity.{auth_value_of, is_available, name_of, policy_of, protection_of, written_of}
use Rattle.tpm_record.specs.Record.{Record}
use Rattle.tpm_auth.specs.Comparison.{check_of, failure, is_password_of, may_be_tried}
use Rattle.tpm_auth.specs.Entries.{decrypts, encrypts, session_of}
use Rattle.tpm_types_common.specs.Refused.{checked_result, refusal}
use Rattle.tpm_types_common.specs.declared.check.Check.TheVariants as check
use Rattle.tpm_types_common.specs.declared.refused.Refused.{Refused}
use Rattle.tpm_auth.specs.declared.session_grant.Grant.{Grant}

-- whether a session is bound to an entity: the entity still has the Name and the authorization
-- value that it had when the session started
unfoldable pub is_bound_to : Record → Session → Handle → Bool
is_bound_to r s handle =
    option_map_or (λ (b : Binding).
    bytes_eq b.name (name_of r handle) && bytes_eq b.auth_value (auth_value_of r handle))
    s.binding false

-- whether the policy requires the authorization value in the HMAC key
abbrev pub is_in_key : Demand → Bool
is_in_key demand.None = false
is_in_key demand.AuthValue = true
is_in_key demand.Password = false

-- whether the policy requires the authorization value as a password
abbrev pub is_password_demand : Demand → Bool
is_password_demand demand.None = false
is_password_demand demand.AuthValue = false
is_password_demand demand.Password = true

-- whether the HMAC key includes the authorization value of the handle that an entry authorizes. The
-- key of an HMAC session includes the value, unless the session is bound to the handle. The key of
-- a policy session includes the value only if the policy requires it, whether or not the session is
-- bound
abbrev pub has_value_in_key : SessionType → (bound : Bool) → Demand → Bool
has_value_in_key type.Hmac bound demand = not bound
has_value_in_key type.Policy bound demand = is_in_key demand
has_value_in_key type.Trial bound demand = is_in_key demand

unfoldable pub takes_value : Record → Session → Grant → Bool
takes_value r s grant = has_value_in_key s.kind (is_bound_to r s grant.handle) grant.demand

-- the authorization value in the HMAC key of a session's entry
unfoldable pub used_auth_value : Record → Session → Option Grant → List ℕ
used_auth_value r s None = []
used_auth_value r s (Some grant) =
    if takes_value r s grant then auth_value_of r grant.handle else []

-- the nonceTPM of an entry's session
abbrev pub entry_nonce : Record → Entry → List ℕ
entry_nonce r e = option_map_or (λ (s : Session). s.nonce_tpm) (session_of r e) []

-- the nonceTPM of the session of the first entry that passes a test
unfoldable pub nonce_where : Record → (Entry → Bool) → List Entry → List ℕ
nonce_where r test entries = option_map_or (entry_nonce r) (find test entries) []

-- the entries whose sessions' nonces may be covered by the HMAC of entry n. If entry n is the first
-- and authorizes a handle, these are the later entries; otherwise, there are no such entries
abbrev pub other_entries : Whole → ℕ → List Entry
other_entries c n = if n == 1 && nat_lt 0 (authorized_handles c.code) then drop 1 c.entries else []

-- whether an entry's session encrypts the response, but does not decrypt the command
abbrev pub only_encrypts : Entry → Bool
only_encrypts e = encrypts e && not (decrypts e)

-- the data covered by a command's hash: its code, the Names of its handles, and its parameters as
-- sent
abbrev pub hashed_command : Record → Whole → HashedParts
hashed_command r c = OfCommand (code_number c.code) (map (name_of r) c.handles) c.parameters

-- the data that the HMAC of entry n covers, in parts. The parameters are hashed as sent, with the
-- session's hash algorithm
unfoldable pub entry_parts : Record → Whole → ℕ → Entry → Session → EntryParts
entry_parts state command number entry session = record {
  hash = parameter_hash_of session.hash (hashed_command state command);
  nonce_caller = entry.nonce;
  decrypt_nonce = nonce_where state decrypts (other_entries command number);
  encrypt_nonce = nonce_where state only_encrypts (other_entries command number);
  attributes = entry.attributes;
}

-- whether the HMAC of an entry is correct: it equals the HMAC that is computed from the key and the
-- covered data, or both the key and the HMAC are empty
unfoldable pub is_authentic : Record → Whole → ℕ → Option Grant → Entry → Session → Bool
is_authentic state command number grant entry session =
    let value = used_auth_value state session grant in
    length (entry_key session value) == 0 && length entry.hmac == 0
    || bytes_eq entry.hmac
    (command_mac_of session value (entry_parts state command number entry session))

-- whether the policy of an entry's session requires a password
abbrev pub demands_password : Option Grant → Bool
demands_password None = false
demands_password (Some grant) = is_password_demand grant.demand

-- the authorization value of the entity that an entry authorizes; empty if the entry authorizes
-- nothing
abbrev pub granted_value : Record → Option Grant → List ℕ
granted_value r None = []
granted_value r (Some grant) = auth_value_of r grant.handle

-- whether the HMAC field of entry n is correct: if the policy requires a password, the field must
-- contain the authorization value; otherwise, it must contain the correct HMAC
unfoldable pub comparison_holds : Record → Whole → ℕ → Option Grant → Entry → Session → Bool
comparison_holds state command number grant entry session =
    if demands_password grant then is_password_of (granted_value state grant) entry.hmac
    else is_authentic state command number grant entry session

-- the protection that the bound entity had when the session started
abbrev pub binding_protection : Session → Protection
binding_protection s = option_map_or (λ (b : Binding). b.protection) s.binding protection.None

abbrev pub or_protection : Protection → Protection → Protection
or_protection protection.None other = other
or_protection protection.Tries other = protection.Tries
or_protection protection.Lockout other = protection.Lockout

-- the dictionary-attack protection that applies to a session's entry. If the entry uses the
-- authorization value of a protected entity, in the HMAC key or as a password, this is the
-- protection of that entity. Otherwise, it is the protection of the entity to which the session was
-- bound
unfoldable pub entry_protection : Record → Session → Option Grant → Protection
entry_protection r s None = binding_protection s
entry_protection r s (Some grant) =
    if takes_value r s grant || is_password_demand grant.demand
    then or_protection (protection_of r grant.handle) (binding_protection s)
    else binding_protection s

-- the facts that a policy checks about a command's use of a handle. The entry with this number,
-- which names a policy session, has to authorize the use
unfoldable pub use_of : Record → Whole → (locality n : ℕ) → Handle → Session → UseParts
use_of state command locality number handle session = record {
  entry = number;
  kind = session.kind;
  hash = session.hash;
  available = is_available state handle means.Policy (nv_use_at command.code (number - 1));
  update_count = state.fixed.banks.update_count;
  command = code_number command.code;
  role = role_at command.code (number - 1);
  cp_hash = parameter_hash_of session.hash (hashed_command state command);
  written = written_of state handle;
  locality = locality;
  entity = policy_of state handle;
}

-- An HMAC session requires only a correct HMAC in its entry. But the handle's entity must allow
-- authorization with its authorization value.
abbrev by_value : Record → Whole → (n : ℕ) → Handle → Result Demand Refused
by_value r c n handle = do
  available ← refused_if (not (is_available r handle means.AuthValue (nv_use_at c.code (n - 1))))
      (refusal check.Authorization (plain code.AuthUnavailable))
  Ok demand.None

-- what a policy session requires in the entry that authorizes a handle, or a refusal if the policy
-- does not allow the handle to be used; a trial session authorizes nothing
abbrev pub by_policy : Record → Whole → (locality n : ℕ) → Handle → Session → Result Demand Refused
by_policy state command locality number handle session =
    checked_result check.Authorization
    (use_passes session.policy (use_of state command locality number handle session))

abbrev pub demand_by : SessionType
    → Record → Whole → (locality n : ℕ) → Handle → Session → Result Demand Refused
demand_by type.Hmac state command locality number handle session =
    by_value state command number handle
demand_by type.Policy state command locality number handle session =
    by_policy state command locality number handle session
demand_by type.Trial state command locality number handle session =
    by_policy state command locality number handle session

unfoldable pub demand_of_session : Record
    → Whole → (locality n : ℕ) → Handle → Session → Result Demand Refused
demand_of_session state command locality number handle session =
    demand_by session.kind state command locality number handle session

-- the check of entry n's password or HMAC. If the entity whose authorization value the entry uses
-- is locked out, nothing is compared and the entry is refused
abbrev pub comparison : Record
    → Whole → ℕ → Option Grant → Entry → Session → Result (Option Grant) Refused
comparison state command number grant entry session = do
  tried ← may_be_tried state.fixed.lockout grant (entry_protection state session grant)
  compared ← refused_if (not (comparison_holds state command number grant entry session))
      (failure (check_of grant) number (entry_protection state session grant))
  Ok grant

-- the grant of entry n, whose handle names a session. If the entry has a handle to authorize, the
-- session must be able to authorize it. If it has no handle to authorize, even a trial session may
-- be used, for example to encrypt a parameter (a choice of this implementation)
unfoldable pub session_grant : Record
    → Whole → (locality n : ℕ) → Option Handle → Entry → Session → Result (Option Grant) Refused
session_grant state command locality number None entry session =
    comparison state command number None entry session
session_grant state command locality number (Some handle) entry session = do
  demand ← demand_of_session state command locality number handle session
  comparison state command number (Some (record { handle = handle; demand = demand })) entry
      session

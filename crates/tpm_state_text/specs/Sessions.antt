-- The sessions of a device. TPM 2.0 Library, Part 1, sections 19.6 and 19.7, and
-- docs/table/sessions.md, say what a session contains. Part 2, sections 6.11 (TPM_SE), 6.3
-- (TPM_ALG_ID) and 11.1.6 (TPMT_SYM_DEF), say how its type, hash and symmetric definition are
-- encoded. The rest of the layout is specific to this device.
use Rattle.std.specs.Prelude.{ℕ, ◌==◌, List, ◌++◌, if◌then◌else◌, Option, Some, None, Result, Ok}
use Rattle.std.specs.Int.{w8, w16, to_be_bytes}
use Rattle.tpm_bytes.specs.Reading.{◌>>=◌}
use Rattle.tpm_bytes.specs.Writing.{sized_text}
use Rattle.tpm_image_text.specs.Fields.{auth_value_in, buffer_in, in_body, passing}
use Rattle.tpm_image_text.specs.declared.fault.Malformed.{Malformed}
use Rattle.tpm_session.specs.Session.{has_hash_sizes}
use Rattle.tpm_session.specs.declared.session.Binding.{Binding}
use Rattle.tpm_session.specs.declared.session.Protection.{Protection}
use Rattle.tpm_session.specs.declared.session.Protection.TheVariants as protection
use Rattle.tpm_session.specs.declared.session.Session.{Session}
use Rattle.tpm_types_common.specs.Algorithm.{hash_at, hash_number}
use Rattle.tpm_types_common.specs.Limits.{session_limit}
use Rattle.tpm_types_common.specs.SessionType.{session_type_at, type_number}
use Rattle.tpm_types_common.specs.Symmetric.{symmetric_at, symmetric_text}
use Rattle.tpm_state_text.specs.Places.{named_in, optional_in, optional_text, places_in, places_text}
use Rattle.tpm_state_text.specs.Policies.{policy_in, policy_text}

-- ---- what a session is bound to

-- the number that encodes how an authorization value is protected against guessing: 0 if it is not,
-- 1 if a wrong guess is a failed try, 2 if a wrong guess disables lockoutAuth
abbrev pub protection_number : Protection → ℕ
protection_number protection.None = 0
protection_number protection.Tries = 1
protection_number protection.Lockout = 2

abbrev pub protection_named : ℕ → Option Protection
protection_named number =
    if number == 0 then Some protection.None
    else (if number == 1 then Some protection.Tries
    else (if number == 2 then Some protection.Lockout else None))

unfoldable pub protection_in : List ℕ → Result (Protection × List ℕ) Malformed
protection_in text = named_in w8 protection_named text

-- the encoding of a binding: the Name, the authorization value and the protection that the entity
-- had when the session started
unfoldable pub binding_text : Binding → List ℕ
binding_text b =
    sized_text b.name ++ sized_text b.auth_value
    ++ to_be_bytes w8 (protection_number b.protection)

unfoldable pub binding_in : List ℕ → Result (Binding × List ℕ) Malformed
binding_in text = do
  name ← buffer_in 34 text
  auth_value ← auth_value_in name.1
  protection ← protection_in auth_value.1
  Ok (
    record { name = name.0; auth_value = auth_value.0; protection = protection.0 },
    protection.1,
  )

-- ---- sessions

-- the encoding of a session: its type, its hash and its symmetric definition; nonceTPM and the key;
-- its binding, if it has one; and its policy
unfoldable pub session_text : Session → List ℕ
session_text s =
    to_be_bytes w8 (type_number s.kind) ++ to_be_bytes w16 (hash_number s.hash)
    ++ symmetric_text s.symmetric
    ++ sized_text s.nonce_tpm ++ sized_text s.key
    ++ optional_text binding_text s.binding ++ policy_text s.policy

-- decodes the fields of a session, without checking their sizes against its hash
unfoldable pub session_fields_in : List ℕ → Result (Session × List ℕ) Malformed
session_fields_in text = do
  kind ← in_body session_type_at text
  hash ← in_body hash_at kind.1
  symmetric ← in_body symmetric_at hash.1
  nonce_tpm ← buffer_in 32 symmetric.1
  key ← buffer_in 32 nonce_tpm.1
  binding ← optional_in binding_in key.1
  policy ← policy_in binding.1
  Ok (
    record {
      kind = kind.0;
      hash = hash.0;
      symmetric = symmetric.0;
      nonce_tpm = nonce_tpm.0;
      key = key.0;
      binding = binding.0;
      policy = policy.0;
    },
    policy.1,
  )

-- decodes a session, and refuses it if its hash does not allow the size of nonceTPM, of the key or
-- of the policy digest
unfoldable pub session_in : List ℕ → Result (Session × List ℕ) Malformed
session_in text = passing has_hash_sizes session_fields_in text

-- the encoding of the sessions, slot by slot
unfoldable pub sessions_text : List (Option Session) → List ℕ
sessions_text sessions = places_text session_text sessions

unfoldable pub sessions_in : List ℕ → Result (List (Option Session) × List ℕ) Malformed
sessions_in text = places_in session_limit session_in text

-- Encryption of parameters by sessions: a command's first parameter, and the first parameter of the
-- command's answer. TPM 2.0 Library, Part 1, section 21.
use Rattle.std.specs.Prelude.{Bool, List, ℕ, Option}
use Rattle.std.specs.List.{find}
use Rattle.std.specs.Option.{option_map_or}
use Rattle.tpm_session.specs.declared.session.Session.{Session}
use Rattle.tpm_session.specs.Encryption.{encrypted_parameter, plain_parameter}
use Rattle.tpm_session.specs.FirstBuffer.{with_first_buffer}
use Rattle.tpm_types_command.specs.AuthEntry.{Entry}
use Rattle.tpm_record.specs.Record.{Record}
use Rattle.tpm_auth.specs.declared.session_grant.Grant.{Grant}
use Rattle.tpm_auth.specs.Entries.{decrypts, encrypts, session_of}
use Rattle.tpm_auth.specs.SessionGrant.{granted_value}
use Rattle.tpm_step.specs.step.Granted.{Granted}
use Rattle.tpm_step.specs.declared.direction.Direction.{Direction}
use Rattle.tpm_step.specs.declared.direction.Direction.TheVariants as direction

-- whether an entry asks its session to decrypt a parameter (Decrypt) or to encrypt one (Encrypt)
abbrev pub asks_for : Direction → Entry → Bool
asks_for direction.Decrypt e = decrypts e
asks_for direction.Encrypt e = encrypts e

-- decrypts or encrypts bytes with a session. Decryption uses nonceCaller and nonceTPM; encryption
-- uses the new nonceTPM and nonceCaller. The key contains the authorization value of the handle
-- that the session authorizes. Unlike the key of an HMAC, it contains this value even if the
-- session is bound to that entity
abbrev pub session_bytes : Direction → Session → (value : List ℕ) → Entry → List ℕ → List ℕ
session_bytes direction.Decrypt s value e = plain_parameter s value e.nonce s.nonce_tpm
session_bytes direction.Encrypt s value e = encrypted_parameter s value s.nonce_tpm e.nonce

-- the parameters, with the first parameter decrypted or encrypted by the session of this entry;
-- unchanged if the entry has no session
unfoldable pub entry_parameters : Direction → Record → Option Grant → Entry → List ℕ → List ℕ
entry_parameters d device grant entry text =
    option_map_or (λ (s : Session).
    with_first_buffer (session_bytes d s (granted_value device grant) entry) text)
    (session_of device entry) text

-- the parameters, with the first parameter decrypted or encrypted by the session of the first entry
-- that asks for it; unchanged if no entry asks
abbrev pub session_parameters : Direction → Record → List Granted → List ℕ → List ℕ
session_parameters d r granted text =
    option_map_or (λ (g : Granted). entry_parameters d r g.1 g.0 text)
    (find (λ g. asks_for d g.0) granted) text

-- the decrypted parameters of a command
abbrev pub plain_parameters : Record → List Granted → List ℕ → List ℕ
plain_parameters r granted text = session_parameters direction.Decrypt r granted text

-- the parameters of an answer, encrypted if an entry of the command asks for it
abbrev pub encrypted_answer : Record → List Granted → List ℕ → List ℕ
encrypted_answer r granted text = session_parameters direction.Encrypt r granted text

-- The sizes of a session's fields, which follow from how sessions are created. In the code, the
-- type of a session guarantees them (`IsSession`).
use Rattle.std.specs.Prelude.{◌≡◌, ◌⊎◌, true, [], length}
use Rattle.tpm_mac.specs.Digest.{digest_size}
use Rattle.tpm_containers.specs.Slots.{AreAll}
use Rattle.tpm_session.specs.Key.{is_nonce_size}
use Rattle.tpm_session.specs.declared.session.Session.{Session}
use Rattle.tpm_record.specs.Record.{Record}

-- A session's policy digest has the size of its hash. Its key has that size or is empty. Its
-- nonceTPM has at least 16 bytes, and at most the size of the hash.
pub record IsSized (session : Session) : Type 0 where
  pub digest : length session.policy.digest ≡ digest_size session.hash
  pub key : (session.key ≡ []) ⊎ (length session.key ≡ digest_size session.hash)
  pub nonce_tpm : is_nonce_size session.hash (length session.nonce_tpm) ≡ true

-- The fields of every session of the record have the right sizes (`IsSized`).
abbrev pub AreSized : Record → Type 0
AreSized r = AreAll IsSized r.sessions

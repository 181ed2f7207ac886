-- The HMAC of an authorization entry. TPM 2.0 Library, Part 1, section 19.6.5 (HMAC computation).
use Rattle.std.specs.Prelude.{ℕ, List, [], ◌∷◌, ◌++◌}
use Rattle.tpm_mac.specs.Hmac.{hmac_of}
use Rattle.tpm_types_common.specs.declared.session_attributes.SessionAttributes.{SessionAttributes}
use Rattle.tpm_session.specs.declared.entry.CommandText.{CommandText}
use Rattle.tpm_session.specs.declared.session.Session.{Session}

-- the data that the HMAC of a command's authorization entry covers, except the nonceTPM of the
-- entry's session
pub record EntryParts : Type 0 where
  pub hash : List ℕ
  pub nonce_caller : List ℕ
  pub decrypt_nonce : List ℕ
  pub encrypt_nonce : List ℕ
  pub attributes : SessionAttributes

abbrev pub parts_of : CommandText → EntryParts
parts_of text = record {
  hash = text.hash.now;
  nonce_caller = text.nonce_caller.now;
  decrypt_nonce = text.decrypt_nonce.now;
  encrypt_nonce = text.encrypt_nonce.now;
  attributes = text.attributes;
}

-- the HMAC key of an authorization entry: sessionKey || authValue
abbrev pub entry_key : Session → List ℕ → List ℕ
entry_key session auth_value = session.key ++ auth_value

-- the data that an authorization entry's HMAC covers: pHash || nonceNewer || nonceOlder || nonceTPM
-- of the decrypt session || nonceTPM of the encrypt session || sessionAttributes. The nonces of the
-- decrypt and encrypt sessions are empty unless the entry authenticates these sessions
abbrev pub entry_text : (hash newer older decrypt encrypt : List ℕ) → SessionAttributes → List ℕ
entry_text hash newer older decrypt encrypt attributes =
    hash ++ newer ++ older ++ decrypt ++ encrypt ++ attributes.octet ∷ []

-- the data that the HMAC of a command's entry covers. The caller's nonce is nonceNewer
abbrev pub command_text : Session → EntryParts → List ℕ
command_text session p =
    entry_text p.hash p.nonce_caller session.nonce_tpm p.decrypt_nonce p.encrypt_nonce p.attributes

unfoldable pub command_mac_of : Session → (auth_value : List ℕ) → EntryParts → List ℕ
command_mac_of session auth_value parts =
    hmac_of session.hash (entry_key session auth_value) (command_text session parts)

-- the data that the HMAC of a response's entry covers. The TPM's nonce is nonceNewer, and no nonces
-- of other sessions are included
abbrev pub response_text : Session → (hash nonce_caller : List ℕ) → SessionAttributes → List ℕ
response_text session hash nonce_caller attributes =
    entry_text hash session.nonce_tpm nonce_caller [] [] attributes

unfoldable pub response_mac_of : Session
    → (auth_value hash nonce_caller : List ℕ) → SessionAttributes → List ℕ
response_mac_of session auth_value hash nonce_caller attributes =
    hmac_of session.hash (entry_key session auth_value)
    (response_text session hash nonce_caller attributes)

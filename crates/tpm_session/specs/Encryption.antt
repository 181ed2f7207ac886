-- Parameter encryption by a session. TPM 2.0 Library, Part 1, sections 21.1, 21.2 (XOR parameter
-- obfuscation) and 21.3 (CFB mode parameter encryption).
use Rattle.std.specs.Prelude.{ℕ, List, [], ◌∷◌, ◌++◌, length, take, drop}
use Rattle.tpm_aes.specs.Cfb.{cfb_decrypt_of, cfb_encrypt_of}
use Rattle.tpm_aes.specs.Cipher.{xor_of}
use Rattle.tpm_mac.specs.Kdf.{kdfa_of}
use Rattle.tpm_types_common.specs.declared.symmetric.SymmetricDefinition.{SymmetricDefinition}
use Rattle.tpm_types_common.specs.declared.symmetric.SymmetricDefinition.TheVariants.{Null, Aes128Cfb, Xor}
use Rattle.tpm_session.specs.declared.session.Session.{Session}

-- KDFa's label for a CFB key: "CFB"
abbrev pub cipher_label : List ℕ
cipher_label = 0x43 ∷ 0x46 ∷ 0x42 ∷ []

-- the key and the IV of a parameter, 32 bytes in all: KDFa(authHash, sessionKey || authValue,
-- "CFB", nonceNewer, nonceOlder, 256 bits)
unfoldable pub cipher_bytes : Session → (auth_value newer older : List ℕ) → List ℕ
cipher_bytes session auth_value newer older =
    kdfa_of session.hash (session.key ++ auth_value) cipher_label newer older 32

-- the cipher key: the first 16 bytes of `cipher_bytes`; the remaining bytes are the IV
abbrev pub cipher_key : List ℕ → List ℕ
cipher_key bytes = take 16 bytes

abbrev pub cipher_iv : List ℕ → List ℕ
cipher_iv bytes = drop 16 bytes

-- KDFa's label for an XOR mask: "XOR"
abbrev pub mask_label : List ℕ
mask_label = 0x58 ∷ 0x4f ∷ 0x52 ∷ []

-- the mask of a parameter: KDFa(authHash, sessionKey || authValue, "XOR", nonceNewer, nonceOlder,
-- the parameter's size in bits). TPM2_StartAuthSession checks that the hash algorithm of XOR is
-- authHash
unfoldable pub mask_bytes : Session → (auth_value newer older : List ℕ) → (size : ℕ) → List ℕ
mask_bytes session auth_value newer older size =
    kdfa_of session.hash (session.key ++ auth_value) mask_label newer older size

-- a parameter with its mask applied; applying the mask twice restores the parameter
abbrev pub masked_parameter : Session → (auth_value newer older bytes : List ℕ) → List ℕ
masked_parameter session auth_value newer older bytes =
    xor_of bytes (mask_bytes session auth_value newer older (length bytes))

abbrev encrypted_by : SymmetricDefinition → Session → (auth_value newer older plain : List ℕ)
    → List ℕ
encrypted_by Null session auth_value newer older plain = plain
encrypted_by Aes128Cfb session auth_value newer older plain =
    let bytes : List ℕ = cipher_bytes session auth_value newer older in
    cfb_encrypt_of (cipher_key bytes) (cipher_iv bytes) plain
encrypted_by (Xor hash) session auth_value newer older plain =
    masked_parameter session auth_value newer older plain

abbrev decrypted_by : SymmetricDefinition → Session → (auth_value newer older cipher : List ℕ)
    → List ℕ
decrypted_by Null session auth_value newer older cipher = cipher
decrypted_by Aes128Cfb session auth_value newer older cipher =
    let bytes : List ℕ = cipher_bytes session auth_value newer older in
    cfb_decrypt_of (cipher_key bytes) (cipher_iv bytes) cipher
decrypted_by (Xor hash) session auth_value newer older cipher =
    masked_parameter session auth_value newer older cipher

-- the encrypted bytes of a parameter; unchanged if the session has no symmetric algorithm
unfoldable pub encrypted_parameter : Session → (auth_value newer older plain : List ℕ) → List ℕ
encrypted_parameter session auth_value newer older plain =
    encrypted_by session.symmetric session auth_value newer older plain

-- the decrypted bytes of a parameter; unchanged if the session has no symmetric algorithm
unfoldable pub plain_parameter : Session → (auth_value newer older cipher : List ℕ) → List ℕ
plain_parameter session auth_value newer older cipher =
    decrypted_by session.symmetric session auth_value newer older cipher

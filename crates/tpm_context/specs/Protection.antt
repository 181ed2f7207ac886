-- How a context is encrypted and authenticated. TPM 2.0 Library, Part 1, section 30.3 (context
-- protection).
use Rattle.std.specs.Prelude.{ℕ, List, [], ◌∷◌, ◌++◌, take, drop}
use Rattle.std.specs.Int.{w32, w64, to_be_bytes}
use Rattle.tpm_aes.specs.Cfb.{cfb_decrypt_of, cfb_encrypt_of}
use Rattle.tpm_mac.specs.Hmac.{hmac_of}
use Rattle.tpm_mac.specs.Kdf.{kdfa_of}
use Rattle.tpm_mac.specs.declared.algorithm.HashAlg.TheVariants.{Sha256}
use Rattle.tpm_context.specs.Head.{saved_number}
use Rattle.tpm_context.specs.declared.binding.Binding.{Binding}
use Rattle.tpm_context.specs.declared.head.ContextHead.{ContextHead}
use Rattle.tpm_context.specs.declared.head.SavedHandle.{SavedHandle}
use Rattle.tpm_context.specs.declared.head.SavedHandle.TheVariants as saved

-- KDFa's label: "CONTEXT"
abbrev pub context_label : List ℕ
context_label = 0x43 ∷ 0x4f ∷ 0x4e ∷ 0x54 ∷ 0x45 ∷ 0x58 ∷ 0x54 ∷ []

-- KDFa's contextV: the savedHandle, then the start number of the completing layer. In the standard,
-- contextV is only the savedHandle. This device adds the start number, because the layer numbers
-- the contexts from 1 again at each start
abbrev pub context_party : (start : ℕ) → ContextHead → List ℕ
context_party start head =
    to_be_bytes w32 (saved_number head.saved) ++ to_be_bytes w64 start

-- the key and the IV with which a context is encrypted, one after the other: KDFa(SHA-256, the
-- proof of the hierarchy, "CONTEXT", sequence, savedHandle and start, 256 bits)
unfoldable pub cipher_bytes : (proof : List ℕ) → (start : ℕ) → ContextHead → List ℕ
cipher_bytes proof start head =
    kdfa_of Sha256 proof context_label (to_be_bytes w64 head.sequence)
    (context_party start head) 32

-- the encryption key: the first 128 bits
abbrev pub cipher_key : List ℕ → List ℕ
cipher_key bytes = take 16 bytes

-- the IV: the remaining bits
abbrev pub cipher_iv : List ℕ → List ℕ
cipher_iv bytes = drop 16 bytes

-- a plaintext, encrypted for a context
abbrev pub ciphertext_of : (proof : List ℕ) → (start : ℕ) → ContextHead → (plain : List ℕ) → List ℕ
ciphertext_of proof start head plain =
    let bytes : List ℕ = cipher_bytes proof start head in
    cfb_encrypt_of (cipher_key bytes) (cipher_iv bytes) plain

-- a ciphertext, decrypted from a context
abbrev pub plaintext_of : (proof : List ℕ) → (start : ℕ) → ContextHead → (cipher : List ℕ) → List ℕ
plaintext_of proof start head cipher =
    let bytes : List ℕ = cipher_bytes proof start head in
    cfb_decrypt_of (cipher_key bytes) (cipher_iv bytes) cipher

-- the restartCount to which a context is bound: the device's restartCount if the object has
-- stClear, since such an object does not outlive a TPM Restart; otherwise 0
abbrev pub restart_bound : Binding → SavedHandle → ℕ
restart_bound b saved.Ordinary = 0
restart_bound b saved.Sequence = 0
restart_bound b saved.StClear = b.restart_count

-- the fields that the integrity value covers before the encrypted object. Part 1, section 30.3,
-- requires resetCount, restartCount for an object with stClear, sequence and savedHandle. This
-- device adds the start number of the completing layer, and a 0 as restartCount for an object
-- without stClear, so that two contexts with different fields have different encodings
abbrev pub bound_text : Binding → ContextHead → List ℕ
bound_text b head =
    to_be_bytes w64 b.start ++ to_be_bytes w32 b.reset_count
    ++ to_be_bytes w32 (restart_bound b head.saved)
    ++ to_be_bytes w64 head.sequence ++ to_be_bytes w32 (saved_number head.saved)

-- the message that the integrity value covers
abbrev pub protected_text : Binding → ContextHead → (cipher : List ℕ) → List ℕ
protected_text b head cipher = bound_text b head ++ cipher

-- the integrity value: HMAC(SHA-256, the proof of the hierarchy, the covered message)
unfoldable pub integrity_of : (proof : List ℕ)
    → Binding → ContextHead → (cipher : List ℕ) → List ℕ
integrity_of proof b head cipher = hmac_of Sha256 proof (protected_text b head cipher)

-- Cipher feedback with segments of 128 bits (SP 800-38A, 6.3) and AES-128. Plaintexts and
-- ciphertexts are lists of bytes. Their blocks of sixteen bytes are numbered from 0. The last block
-- may be shorter.
use Rattle.std.specs.Prelude.{ℕ, zero, suc, ◌+◌, ◌*◌, ◌/◌, ◌%◌, min, List, drop, length, take}
use Rattle.std.specs.List.{flat_map, range_with_len}
use Rattle.tpm_aes.specs.Cipher.{aes_of, xor_of}

-- block i of a plaintext or ciphertext
abbrev pub block_at : List ℕ → ℕ → List ℕ
block_at text i = take 16 (drop (16 * i) text)

-- the number of blocks in a plaintext or ciphertext
abbrev pub block_count : List ℕ → ℕ
block_count text = length text / 16 + min 1 (length text % 16)

-- C(i), the block of ciphertext before block i: C(0) is the IV, and C(i + 1) = P(i + 1) xor
-- E(C(i)). A short block uses the first bytes of E(C(i))
unfoldable pub cipher_block : (key iv plain : List ℕ) → ℕ → List ℕ
cipher_block key iv plain zero = iv
cipher_block key iv plain (suc i) =
    xor_of (block_at plain i) (aes_of key (cipher_block key iv plain i))

-- the encrypted plaintext: C(1), C(2) and so on
abbrev pub cfb_encrypt_of : (key iv plain : List ℕ) → List ℕ
cfb_encrypt_of key iv plain =
    flat_map (λ i. cipher_block key iv plain (i + 1)) (range_with_len 0 (block_count plain))

-- the block before block i of a ciphertext, or the IV for the first block
abbrev pub block_before : (iv cipher : List ℕ) → ℕ → List ℕ
block_before iv cipher zero = iv
block_before iv cipher (suc i) = block_at cipher i

-- block i of the plaintext: P(i + 1) = C(i + 1) xor E(C(i))
abbrev pub plain_block : (key iv cipher : List ℕ) → ℕ → List ℕ
plain_block key iv cipher i =
    xor_of (block_at cipher i) (aes_of key (block_before iv cipher i))

-- the decrypted ciphertext: P(1), P(2) and so on
abbrev pub cfb_decrypt_of : (key iv cipher : List ℕ) → List ℕ
cfb_decrypt_of key iv cipher =
    flat_map (plain_block key iv cipher) (range_with_len 0 (block_count cipher))

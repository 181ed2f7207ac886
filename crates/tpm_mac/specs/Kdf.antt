-- The key derivation KDFa: SP 800-108, 5.1 (counter mode, with HMAC as the PRF and a 32-bit counter
-- as the first field), with the fields that TCG TPM 2.0 Library Part 1, 11.4.10.2 defines.
use Rattle.std.specs.Prelude.{ℕ, ◌+◌, ◌*◌, ◌/◌, ◌%◌, min, List, [], ◌∷◌, ◌++◌, take}
use Rattle.std.specs.Int.{to_be_bytes, w32}
use Rattle.std.specs.List.{flat_map, range_with_len}
use Rattle.tpm_mac.specs.Digest.{digest_size}
use Rattle.tpm_mac.specs.Hmac.{hmac_of}
use Rattle.tpm_mac.specs.declared.algorithm.HashAlg.{HashAlg}

-- the input of block i: i ++ Label ++ 00 ++ Context ++ L. Context is contextU ++ contextV, and L
-- is the number of bits requested (SP 800-108, 5.1)
abbrev pub kdfa_text : (label context_u context_v : List ℕ) (bits i : ℕ) → List ℕ
kdfa_text label context_u context_v bits i =
    to_be_bytes w32 i ++ label ++ 0 ∷ [] ++ context_u ++ context_v ++ to_be_bytes w32 bits

-- the number of digests that are needed for this many bytes (SP 800-108, 5.1, step 1: L / h,
-- rounded up)
abbrev pub block_count : HashAlg → ℕ → ℕ
block_count alg size = size / digest_size alg + min 1 (size % digest_size alg)

-- the key of this size that KDFa derives: the first bytes of the concatenated blocks, starting with
-- block 1 (TCG TPM 2.0 Library Part 1, 11.4.10.2)
unfoldable pub kdfa_of : HashAlg → (key label context_u context_v : List ℕ) (size : ℕ) → List ℕ
kdfa_of alg key label context_u context_v size =
    take size (flat_map
    (λ i. hmac_of alg key (kdfa_text label context_u context_v (size * 8) i))
    (range_with_len 1 (block_count alg size)))

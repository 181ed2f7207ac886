-- HMAC (FIPS 198-1) over whole messages. Keys, messages and digests are lists of bytes.
use Rattle.std.specs.Prelude.{ℕ, ◌-◌, bit_xor, if◌then◌else◌, nat_lt}
use Rattle.std.specs.Prelude.{List, ◌++◌, length, map, replicate}
use Rattle.tpm_mac.specs.Digest.{hash_of}
use Rattle.tpm_mac.specs.declared.algorithm.HashAlg.{HashAlg}

-- K0: the key, padded with zeros to the 64 bytes of a block. A longer key is hashed first (FIPS
-- 198-1, 4, steps 1 to 3)
abbrev pub padded_key : HashAlg → List ℕ → List ℕ
padded_key alg key =
    let short = if nat_lt 64 (length key) then hash_of alg key else key in
    short ++ replicate (64 - length short) 0

-- the key with each byte xored with the pad
abbrev pub masked_key : ℕ → List ℕ → List ℕ
masked_key pad key = map (λ byte. bit_xor byte pad) key

-- the HMAC of the message `text` with a key of any length: H((K0 xor opad) ++ H((K0 xor ipad) ++
-- text)) (FIPS 198-1, 4, steps 4 to 9; ipad and opad: 2.3)
unfoldable pub hmac_of : HashAlg → (key text : List ℕ) → List ℕ
hmac_of alg key text =
    let block_key = padded_key alg key in
    hash_of alg (masked_key 0x5c block_key ++ hash_of alg (masked_key 0x36 block_key ++ text))

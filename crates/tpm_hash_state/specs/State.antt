-- The state of a hash computation in progress (FIPS 180-4). A message is a list of bytes.
use Rattle.std.specs.Prelude.{ℕ, ◌+◌, ◌%◌, ◌^◌, List, [], ◌∷◌, if◌then◌else◌, nat_eq, replicate, slice_set}
use Rattle.sha1.specs.Sha1 as sha1
use Rattle.sha2.specs.Sha256 as sha256
use Rattle.sha2.specs.Sha256.{padding}
use Rattle.tpm_mac.specs.declared.algorithm.HashAlg.{HashAlg}
use Rattle.tpm_mac.specs.declared.algorithm.HashAlg.TheVariants as alg
use Rattle.tpm_hash_state.specs.declared.chaining.ChainingValue.{ChainingValue}
use Rattle.tpm_hash_state.specs.declared.chaining.ChainingValue.TheVariants.{Sha1, Sha256}
use Rattle.tpm_hash_state.specs.declared.state.HashState.{HashState}

-- the initial hash value (FIPS 180-4, 5.3.1 and 5.3.3)
abbrev pub initial_value : HashAlg → ChainingValue
initial_value alg.Sha1 = Sha1 sha1.initial_hash
initial_value alg.Sha256 = Sha256 sha256.initial_hash_256

-- the hash value after one more block (FIPS 180-4, 6.1.2 and 6.2.2)
abbrev pub value_after_block : ChainingValue → List ℕ → ChainingValue
value_after_block (Sha1 words) block = Sha1 (sha1.compress words block)
value_after_block (Sha256 words) block = Sha256 (sha256.compress words block)

-- the initial state, in which the message is empty
abbrev pub empty_state : HashAlg → HashState
empty_state alg = record { chaining = initial_value alg; block = replicate 64 0; length = 0 }

-- the state after one more byte of the message. If the byte fills the block, the block is
-- compressed into the hash value
abbrev pub byte_absorbed : HashState → ℕ → HashState
byte_absorbed state byte =
    let place : ℕ = state.length % 64 in
    let block : List ℕ = slice_set state.block place byte in
    let value = state.chaining in
    record {
      chaining = if nat_eq place 63 then value_after_block value block else value;
      block = block;
      length = (state.length + 1) % 2 ^ 64;
    }

-- the state after these bytes of the message, one after another
unfoldable pub state_after_bytes : HashState → List ℕ → HashState
state_after_bytes state [] = state
state_after_bytes state (byte ∷ bytes) = state_after_bytes (byte_absorbed state byte) bytes

-- the hash value as bytes, each word with its high byte first
abbrev pub value_bytes : ChainingValue → List ℕ
value_bytes (Sha1 words) = sha1.digest_bytes words 5
value_bytes (Sha256 words) = sha256.digest_bytes words 8

-- the digest: the hash value after the padding of the message (FIPS 180-4, 5.1.1)
unfoldable pub state_digest : HashState → List ℕ
state_digest state = value_bytes (state_after_bytes state (padding state.length)).chaining

-- the algorithm of a hash value
abbrev pub value_alg : ChainingValue → HashAlg
value_alg (Sha1 words) = alg.Sha1
value_alg (Sha256 words) = alg.Sha256

-- the algorithm of a state
abbrev pub state_alg : HashState → HashAlg
state_alg state = value_alg state.chaining

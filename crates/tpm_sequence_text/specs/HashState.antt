-- The encoding of a hash in progress: its algorithm, the words of its hash value, its block and its
-- length.
use Rattle.std.specs.Prelude.{◌≡◌, ◌<◌, ◌^◌, ℕ, List, ◌++◌, length, Result, Ok}
use Rattle.std.specs.Int.{w16, w32, w64, to_be_bytes}
use Rattle.std.specs.List.{All, flat_map}
use Rattle.tpm_bytes.specs.Many.{many_at}
use Rattle.tpm_bytes.specs.Reading.{◌>>=◌}
use Rattle.tpm_hash_state.specs.State.{value_alg}
use Rattle.tpm_hash_state.specs.declared.chaining.ChainingValue.{ChainingValue}
use Rattle.tpm_hash_state.specs.declared.chaining.ChainingValue.TheVariants.{Sha1, Sha256}
use Rattle.tpm_hash_state.specs.declared.state.HashState as declared
use Rattle.tpm_image_text.specs.Fields.{bytes_in, in_body, number_in}
use Rattle.tpm_image_text.specs.declared.fault.Malformed.{Malformed}
use Rattle.tpm_mac.specs.declared.algorithm.HashAlg.{HashAlg}
use Rattle.tpm_mac.specs.declared.algorithm.HashAlg.TheVariants as alg
use Rattle.tpm_types_common.specs.Algorithm.{hash_at, hash_number}

-- ---- the hash value

abbrev pub value_words : ChainingValue → List ℕ
value_words (Sha1 words) = words
value_words (Sha256 words) = words

-- There are `count` words, and each word fits in 32 bits.
abbrev pub AreWords : (count : ℕ) → List ℕ → Type 0
AreWords count words = (length words ≡ count) × All (λ word. word < 2 ^ 32) words

abbrev pub IsValue : ChainingValue → Type 0
IsValue (Sha1 words) = AreWords 5 words
IsValue (Sha256 words) = AreWords 8 words

abbrev pub words_text : ChainingValue → List ℕ
words_text value = flat_map (to_be_bytes w32) (value_words value)

unfoldable pub value_text : ChainingValue → List ℕ
value_text value = to_be_bytes w16 (hash_number (value_alg value)) ++ words_text value

-- decodes the words of a hash value with this algorithm
abbrev pub value_after : HashAlg → List ℕ → Result (ChainingValue × List ℕ) Malformed
value_after alg.Sha1 text = do
  words ← many_at (number_in w32) 5 text
  Ok (Sha1 words.0, words.1)
value_after alg.Sha256 text = do
  words ← many_at (number_in w32) 8 text
  Ok (Sha256 words.0, words.1)

unfoldable pub value_in : List ℕ → Result (ChainingValue × List ℕ) Malformed
value_in text = do
  hash ← in_body hash_at text
  value_after hash.0 hash.1

-- ---- the state

-- Every number of a state fits its integer type, and the block is 64 bytes long.
pub record IsHashState (state : declared.HashState) : Type 0 where
  pub value : IsValue state.chaining
  pub block : length state.block ≡ 64
  pub counted : state.length < 2 ^ 64

unfoldable pub hash_state_text : declared.HashState → List ℕ
hash_state_text state =
    value_text state.chaining ++ state.block ++ to_be_bytes w64 state.length

unfoldable pub hash_state_in : List ℕ → Result (declared.HashState × List ℕ) Malformed
hash_state_in text = do
  value ← value_in text
  block ← bytes_in 64 value.1
  count ← number_in w64 block.1
  Ok (record { chaining = value.0; block = block.0; length = count.0 }, count.1)

-- The decoder of a hash in progress is exact: it returns a hash if and only if the bytes begin with
-- the encoding of this hash.
use Rattle.std.proofs.Common.{◌≡◌, ℕ, List, refl}
use Rattle.std.specs.Int.{w64, to_be_bytes}
use Rattle.tpm_hash_state.specs.State.{value_alg}
use Rattle.tpm_hash_state.specs.declared.chaining.ChainingValue.{ChainingValue}
use Rattle.tpm_hash_state.specs.declared.chaining.ChainingValue.TheVariants.{Sha1, Sha256}
use Rattle.tpm_hash_state.specs.declared.state.HashState as declared
use Rattle.tpm_image_text.proofs.FieldSpelling.{bytes_spelled, in_body_spelled, three_texts}
use Rattle.tpm_mac.specs.declared.algorithm.HashAlg.{HashAlg}
use Rattle.tpm_mac.specs.declared.algorithm.HashAlg.TheVariants as alg
use Rattle.tpm_types_common.proofs.HashLaws.{hash_spelled}
use Rattle.tpm_types_common.proofs.Spelled.{Spelled, all_read, first, for_each, respelled, then}
use Rattle.tpm_sequence_text.proofs.Spelling.{made_from, n64, words_spelled}
use Rattle.tpm_sequence_text.specs.HashState.{AreWords, IsHashState, IsValue, hash_state_in, hash_state_text, value_after, value_in, value_text, words_text}

-- The value is valid and has this algorithm.
abbrev IsValueOf : HashAlg → ChainingValue → Type 0
IsValueOf hash value = IsValue value × (value_alg value ≡ hash)

sha1_from : (value : ChainingValue) → IsValueOf alg.Sha1 value
    → (words : List ℕ) × (Sha1 words ≡ value) × AreWords 5 words
sha1_from (Sha1 words) is = (words, refl, is.0)
sha1_from (Sha256 words) is = absurd cc

sha256_from : (value : ChainingValue) → IsValueOf alg.Sha256 value
    → (words : List ℕ) × (Sha256 words ≡ value) × AreWords 8 words
sha256_from (Sha1 words) is = absurd cc
sha256_from (Sha256 words) is = (words, refl, is.0)

after_spelled : (hash : HashAlg) → Spelled words_text (IsValueOf hash) (value_after hash)
after_spelled alg.Sha1 =
    made_from Sha1 words_text (IsValueOf alg.Sha1) (λ words is. (is, refl)) (λ words. refl)
    sha1_from (words_spelled 5)
after_spelled alg.Sha256 =
    made_from Sha256 words_text (IsValueOf alg.Sha256) (λ words is. (is, refl)) (λ words. refl)
    sha256_from (words_spelled 8)

value_spelled : Spelled value_text IsValue value_in
unfolding value_in value_text
value_spelled =
    respelled (first (in_body_spelled hash_spelled)
    (for_each value_alg words_text IsValue value_after after_spelled))
    (λ value. refl) (λ value is. is.1) (λ value is. (tt, is))

abbrev state_fields : declared.HashState → (ChainingValue × List ℕ) × ℕ
state_fields s = ((s.chaining, s.block), s.length)

abbrev state_of : (ChainingValue × List ℕ) × ℕ → declared.HashState
state_of f = record { chaining = f.0.0; block = f.0.1; length = f.1 }

pub hash_state_spelled : Spelled hash_state_text IsHashState hash_state_in
unfolding hash_state_in hash_state_text
hash_state_spelled =
    respelled
    (first value_spelled
    (then (bytes_spelled 64)
    (then n64 (all_read state_fields state_of (λ _. refl) (λ _. refl)))))
    (λ s. three_texts (value_text s.chaining) s.block (to_be_bytes w64 s.length))
    (λ s is. record { value = is.0; block = is.1.0; counted = is.1.1.0 })
    (λ s is. (is.value, (is.block, (is.counted, tt))))

-- The numbers of a sequence object fit their integer types, whatever data its sequence has
-- absorbed.
use Rattle.std.proofs.Common.{◌%◌, ◌^◌, ◌<◌, ◌≤◌, ◌-◌, ℕ, zero, suc, Bool, true, false, cond, List, [], ◌∷◌, length, replicate, slice_set, refl, ◌∙◌, arith, length-append, length-set}
use Rattle.std.specs.Prelude.{nat_eq, reverse}
use Rattle.std.proofs.lemmas.List.{length-replicate, length-reverse}
use Rattle.std.proofs.lemmas.List.Elements.{All-from_recursion}
use Rattle.sha1.specs.Sha1 as sha1
use Rattle.sha2.specs.Sha256 as sha256
use Rattle.tpm_mac.specs.declared.algorithm.HashAlg.{HashAlg}
use Rattle.tpm_mac.specs.declared.algorithm.HashAlg.TheVariants as alg
use Rattle.tpm_mac.specs.Hmac.{masked_key, padded_key}
use Rattle.tpm_hash_state.specs.Hmac.{hmac_state}
use Rattle.tpm_hash_state.specs.State.{byte_absorbed, empty_state, state_after_bytes, value_after_block}
use Rattle.tpm_hash_state.specs.declared.chaining.ChainingValue.{ChainingValue}
use Rattle.tpm_hash_state.specs.declared.chaining.ChainingValue.TheVariants.{Sha1, Sha256}
use Rattle.tpm_hash_state.specs.declared.state.HashState.{HashState}
use Rattle.tpm_sequence.specs.Authorization.{padded}
use Rattle.tpm_sequence.specs.Sequence.{event_sequence, hash_sequence, hmac_sequence, object_of, object_updated, sequence_updated}
use Rattle.tpm_sequence.specs.declared.object.SequenceObject.{SequenceObject}
use Rattle.tpm_sequence.specs.declared.sequence.Sequence.{Sequence}
use Rattle.tpm_sequence.specs.declared.sequence.Sequence.TheVariants.{Event, Hash, Hmac}
use Rattle.tpm_sequence_text.specs.HashState.{AreWords, IsHashState, IsValue}
use Rattle.tpm_sequence_text.specs.Slot.{IsSequence, IsSequenceObject}
use Rattle.tpm_types_common.specs.AuthValue.{trimmed, without_first_zeros}

-- ---- hash values

abbrev IsWord : ℕ → Type 0
IsWord word = word < 2 ^ 32

below : (n : ℕ) → n % 2 ^ 32 < 2 ^ 32
below n = omega arith

words1 : (words block : List ℕ) → AreWords 5 (sha1.compress words block)
unfolding sha1.compress
words1 words block = (
  refl,
  All-from_recursion IsWord (sha1.compress words block)
      (below _, (below _, (below _, (below _, (below _, tt))))),
)

words256 : (words block : List ℕ) → AreWords 8 (sha256.compress words block)
unfolding sha256.compress
words256 words block = (
  refl,
  All-from_recursion IsWord (sha256.compress words block) (
    below _,
    (below _, (below _, (below _, (below _, (below _, (below _, (below _, tt))))))),
  ),
)

compressed_is : (value : ChainingValue) (block : List ℕ) → IsValue (value_after_block value block)
compressed_is (Sha1 words) block = words1 words block
compressed_is (Sha256 words) block = words256 words block

-- ---- hash states

empty_is : (hash : HashAlg) → IsHashState (empty_state hash)
empty_is alg.Sha1 = record {
  value = (
    refl,
    All-from_recursion IsWord sha1.initial_hash
        (omega arith, (omega arith, (omega arith, (omega arith, (omega arith, tt))))),
  );
  block = refl;
  counted = omega arith;
}
empty_is alg.Sha256 = record {
  value = (
    refl,
    All-from_recursion IsWord sha256.initial_hash_256 (
      omega arith,
      (
        omega arith,
        (
          omega arith,
          (omega arith, (omega arith, (omega arith, (omega arith, (omega arith, tt))))),
        ),
      ),
    ),
  );
  block = refl;
  counted = omega arith;
}

continued_is : (full : Bool) (value : ChainingValue) (block : List ℕ) → IsValue value
    → IsValue (cond full (value_after_block value block) value)
continued_is true value block is = compressed_is value block
continued_is false value block is = is

byte_is : (state : HashState) (byte : ℕ) → IsHashState state
    → IsHashState (byte_absorbed state byte)
byte_is state byte is =
    let place : ℕ = state.length % 64 in
    record {
      value = continued_is (nat_eq place 63) state.chaining (slice_set state.block place byte)
          is.value;
      block = length-set state.block place byte ∙ is.block;
      counted = omega arith;
    }

pub absorbed_is : (state : HashState) (bytes : List ℕ) → IsHashState state
    → IsHashState (state_after_bytes state bytes)
unfolding state_after_bytes
absorbed_is state [] is = is
absorbed_is state (byte ∷ bytes) is =
    absorbed_is (byte_absorbed state byte) bytes (byte_is state byte is)

-- ---- sequences

pub hash_is : (hash : HashAlg) → IsSequence (hash_sequence hash)
hash_is hash = empty_is hash

pub event_is : IsSequence event_sequence
event_is = (empty_is alg.Sha1, empty_is alg.Sha256)

pub hmac_is : (hash : HashAlg) (key : List ℕ) → IsSequence (hmac_sequence hash key)
unfolding hmac_state
hmac_is hash key = (
  absorbed_is (empty_state hash) (masked_key 0x36 (padded_key hash key)) (empty_is hash),
  absorbed_is (empty_state hash) (masked_key 0x5c (padded_key hash key)) (empty_is hash),
)

sequence_is : (sequence : Sequence) (bytes : List ℕ) → IsSequence sequence
    → IsSequence (sequence_updated sequence bytes)
sequence_is (Hash state beginning) bytes is = absorbed_is state bytes is
sequence_is (Event one two) bytes is = (absorbed_is one bytes is.0, absorbed_is two bytes is.1)
sequence_is (Hmac state) bytes is = (absorbed_is state.inner bytes is.0, is.1)

-- ---- sequence objects

zeros_few : (bytes : List ℕ) → length (without_first_zeros bytes) ≤ length bytes
zeros_few [] = omega arith
zeros_few (zero ∷ bytes) = omega (arith, zeros_few bytes)
zeros_few (suc byte ∷ bytes) = omega arith

trimmed_few : (bytes : List ℕ) → length (trimmed bytes) ≤ length bytes
unfolding trimmed
trimmed_few bytes =
    omega (
      arith,
      length-reverse (without_first_zeros (reverse bytes)),
      zeros_few (reverse bytes),
      length-reverse bytes,
    )

pub object_is : (auth : List ℕ) (sequence : Sequence) → length auth ≤ 32 → IsSequence sequence
    → IsSequenceObject (object_of auth sequence)
unfolding padded
object_is auth sequence few is = record {
  auth = omega (
    arith,
    trimmed_few auth,
    few,
    length-append (trimmed auth) (replicate (32 - length (trimmed auth)) 0),
    length-replicate {A = ℕ} (32 - length (trimmed auth)) 0,
  );
  sequence = is;
}

pub updated_is : (object : SequenceObject) (bytes : List ℕ) → IsSequenceObject object
    → IsSequenceObject (object_updated object bytes)
updated_is object bytes is =
    record { auth = is.auth; sequence = sequence_is object.sequence bytes is.sequence }

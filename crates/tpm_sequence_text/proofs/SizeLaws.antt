-- No encoding of a slot is longer than `slot_size` bytes.
use Rattle.std.proofs.Common.{◌≡◌, ℕ, ◌+◌, ◌*◌, ◌≤◌, List, [], ◌∷◌, ◌++◌, length, length-append, Some, None, refl, arith}
use Rattle.std.specs.Int.{w8, w16, w32, w64, to_be_bytes}
use Rattle.std.specs.List.{flat_map}
use Rattle.tpm_hash_state.specs.State.{value_alg}
use Rattle.tpm_hash_state.specs.declared.chaining.ChainingValue.{ChainingValue}
use Rattle.tpm_hash_state.specs.declared.chaining.ChainingValue.TheVariants.{Sha1, Sha256}
use Rattle.tpm_hash_state.specs.declared.state.HashState.{HashState}
use Rattle.tpm_sequence.specs.declared.object.SequenceObject.{SequenceObject}
use Rattle.tpm_sequence.specs.declared.sequence.Sequence.{Sequence}
use Rattle.tpm_sequence.specs.declared.sequence.Sequence.TheVariants.{Event, Hash, Hmac}
use Rattle.tpm_types_common.specs.Algorithm.{hash_number}
use Rattle.tpm_sequence_text.specs.HashState.{IsHashState, IsValue, hash_state_text, value_text, words_text}
use Rattle.tpm_sequence_text.specs.Kind.{beginning_number, kind_number, slot_kind}
use Rattle.tpm_sequence_text.specs.Meaning.{StaysSmall}
use Rattle.tpm_sequence_text.specs.Sizes.{hash_state_size, sequence_size, value_size}
use Rattle.tpm_sequence_text.specs.Slot.{IsSequence, IsSequenceObject, sequence_text, slot_text}

-- each encoded word is four bytes long
pub length-words : (words : List ℕ) → length (flat_map (to_be_bytes w32) words) ≡ 4 * length words
length-words [] = refl
length-words (word ∷ words) =
    let others = length-words words in
    let both = length-append (to_be_bytes w32 word) (flat_map (to_be_bytes w32) words) in
    omega (arith, others, both)

value_small : (value : ChainingValue) → IsValue value → length (value_text value) ≤ value_size
unfolding value_text
value_small (Sha1 words) is =
    omega (
      arith,
      is.0,
      length-words words,
      length-append (to_be_bytes w16 (hash_number (value_alg (Sha1 words))))
          (words_text (Sha1 words)),
    )
value_small (Sha256 words) is =
    omega (
      arith,
      is.0,
      length-words words,
      length-append (to_be_bytes w16 (hash_number (value_alg (Sha256 words))))
          (words_text (Sha256 words)),
    )

hash_state_small : (state : HashState) → IsHashState state
    → length (hash_state_text state) ≤ hash_state_size
unfolding hash_state_text
hash_state_small state is =
    let value = value_small state.chaining is.value in
    let block = is.block in
    let front = length-append (value_text state.chaining) state.block in
    let whole = length-append (value_text state.chaining ++ state.block)
    (to_be_bytes w64 state.length) in
    omega (arith, value, block, front, whole)

sequence_small : (sequence : Sequence) → IsSequence sequence
    → length (sequence_text sequence) ≤ sequence_size
sequence_small (Hash state beginning) is =
    omega (
      arith,
      hash_state_small state is,
      length-append (hash_state_text state) (to_be_bytes w8 (beginning_number beginning)),
    )
sequence_small (Event sha1 sha256) is =
    omega (
      arith,
      hash_state_small sha1 is.0,
      hash_state_small sha256 is.1,
      length-append (hash_state_text sha1) (hash_state_text sha256),
    )
sequence_small (Hmac state) is =
    omega (
      arith,
      hash_state_small state.inner is.0,
      hash_state_small state.outer is.1,
      length-append (hash_state_text state.inner) (hash_state_text state.outer),
    )

object_small : (object : SequenceObject) → IsSequenceObject object
    → length (object.auth ++ sequence_text object.sequence) ≤ 32 + sequence_size
object_small object is =
    omega (
      arith,
      is.auth,
      sequence_small object.sequence is.sequence,
      length-append object.auth (sequence_text object.sequence),
    )

pub stays_small : StaysSmall
unfolding slot_text
stays_small None is = omega arith
stays_small (Some object) is =
    omega (
      arith,
      object_small object is,
      length-append (to_be_bytes w8 (kind_number (slot_kind (Some object))))
          (object.auth ++ sequence_text object.sequence),
    )

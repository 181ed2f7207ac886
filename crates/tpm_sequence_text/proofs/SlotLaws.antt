-- Each slot has exactly one encoding.
use Rattle.std.proofs.Common.{◌≡◌, ℕ, List, Option, Some, None, refl, ap}
use Rattle.tpm_hash_state.specs.declared.state.HashState.{HashState}
use Rattle.tpm_image_text.proofs.FieldSpelling.{bytes_spelled, only}
use Rattle.tpm_sequence.specs.declared.beginning.Beginning.{Beginning}
use Rattle.tpm_sequence.specs.declared.object.SequenceObject.{SequenceObject}
use Rattle.tpm_sequence.specs.declared.sequence.Sequence.{Sequence}
use Rattle.tpm_sequence.specs.declared.sequence.Sequence.TheVariants.{Event, Hash, Hmac}
use Rattle.tpm_types_common.proofs.Spelled.{Spelled, first, for_each, respelled}
use Rattle.tpm_sequence_text.proofs.KindLaws.{beginning_spelled, kind_spelled}
use Rattle.tpm_sequence_text.proofs.Spelling.{both_spelled, made_from}
use Rattle.tpm_sequence_text.proofs.StateLaws.{hash_state_spelled}
use Rattle.tpm_sequence_text.specs.HashState.{IsHashState}
use Rattle.tpm_sequence_text.specs.Kind.{sequence_kind, slot_kind}
use Rattle.tpm_sequence_text.specs.Meaning.{ReadsAgain, ReadsOnlyText}
use Rattle.tpm_sequence_text.specs.Slot.{IsSequence, IsSequenceObject, IsSlot, contents_in, contents_text, event_in, hash_in, hmac_in, object_in, object_text, sequence_in, sequence_text, slot_in, slot_text}
use Rattle.tpm_sequence_text.specs.declared.kind.SequenceKind.{SequenceKind}
use Rattle.tpm_sequence_text.specs.declared.kind.SequenceKind.TheVariants as kind

-- ---- sequences

-- The sequence is valid and of this kind.
abbrev IsSequenceOf : SequenceKind → Sequence → Type 0
IsSequenceOf kind sequence = IsSequence sequence × (sequence_kind sequence ≡ kind)

hash_from : (sequence : Sequence) → IsSequenceOf kind.Hash sequence
    → (p : HashState × Beginning) × (Hash p.0 p.1 ≡ sequence) × (IsHashState p.0 × Unit {0})
hash_from (Hash state beginning) is = ((state, beginning), refl, (is.0, tt))
hash_from (Event sha1 sha256) is = absurd cc
hash_from (Hmac state) is = absurd cc

event_from : (sequence : Sequence) → IsSequenceOf kind.Event sequence
    → (p : HashState × HashState) × (Event p.0 p.1 ≡ sequence) × (IsHashState p.0 × IsHashState p.1)
event_from (Hash state beginning) is = absurd cc
event_from (Event sha1 sha256) is = ((sha1, sha256), refl, is.0)
event_from (Hmac state) is = absurd cc

abbrev hmac_made : HashState × HashState → Sequence
hmac_made p = Hmac (record { inner = p.0; outer = p.1 })

hmac_from : (sequence : Sequence) → IsSequenceOf kind.Hmac sequence
    → (p : HashState × HashState) × (hmac_made p ≡ sequence) × (IsHashState p.0 × IsHashState p.1)
hmac_from (Hash state beginning) is = absurd cc
hmac_from (Event sha1 sha256) is = absurd cc
hmac_from (Hmac state) is = ((state.inner, state.outer), refl, is.0)

sequence_spelled : (kind : SequenceKind)
    → Spelled sequence_text (IsSequenceOf kind) (sequence_in kind)
unfolding hash_in event_in hmac_in
sequence_spelled kind.Hash =
    made_from (λ (p : HashState × Beginning). Hash p.0 p.1) sequence_text (IsSequenceOf kind.Hash)
    (λ p is. (is.0, refl)) (λ p. refl) hash_from (both_spelled hash_state_spelled beginning_spelled)
sequence_spelled kind.Event =
    made_from (λ (p : HashState × HashState). Event p.0 p.1) sequence_text (IsSequenceOf kind.Event)
    (λ p is. (is, refl)) (λ p. refl) event_from (both_spelled hash_state_spelled hash_state_spelled)
sequence_spelled kind.Hmac =
    made_from hmac_made sequence_text (IsSequenceOf kind.Hmac)
    (λ p is. (is, refl)) (λ p. refl) hmac_from (both_spelled hash_state_spelled hash_state_spelled)

-- ---- objects

-- The object is valid, and its sequence is of this kind.
abbrev IsObjectOf : SequenceKind → SequenceObject → Type 0
IsObjectOf kind object = IsSequenceObject object × (sequence_kind object.sequence ≡ kind)

abbrev object_made : List ℕ × Sequence → SequenceObject
object_made p = record { auth = p.0; sequence = p.1 }

object_spelled : (kind : SequenceKind) → Spelled object_text (IsObjectOf kind) (object_in kind)
unfolding object_in
object_spelled kind =
    made_from object_made object_text (IsObjectOf kind)
    (λ p is. (record { auth = is.0; sequence = is.1.0 }, is.1.1)) (λ p. refl)
    (λ object is. ((object.auth, object.sequence), refl, (is.0.auth, (is.0.sequence, is.1))))
    (both_spelled (bytes_spelled 32) (sequence_spelled kind))

-- ---- slots

-- The slot is valid. Its sequence is of this kind, or the slot is free if `kind` is None.
abbrev IsSlotOf : Option SequenceKind → Option SequenceObject → Type 0
IsSlotOf kind slot = IsSlot slot × (slot_kind slot ≡ kind)

is_free : (slot : Option SequenceObject) → IsSlotOf None slot → slot ≡ None
is_free None is = refl
is_free (Some object) is = absurd cc

some_same : {X : Type 0} (x y : X) → (let one : Option X = Some x in one ≡ Some y) → x ≡ y
some_same x y e = cc

slot_from : (kind : SequenceKind) (slot : Option SequenceObject) → IsSlotOf (Some kind) slot
    → (object : SequenceObject) × ((let one : Option SequenceObject = Some object in one) ≡ slot)
    × IsObjectOf kind object
slot_from kind None is = absurd cc
slot_from kind (Some object) is = (object, refl, (is.0, some_same _ _ is.1))

contents_spelled : (kind : Option SequenceKind)
    → Spelled contents_text (IsSlotOf kind) (contents_in kind)
contents_spelled None = only None refl (tt, refl) is_free
contents_spelled (Some kind) =
    made_from (λ (object : SequenceObject). let one : Option SequenceObject = Some object in one)
    contents_text (IsSlotOf (Some kind))
    (λ object is. (is.0, ap Some is.1)) (λ object. refl) (slot_from kind) (object_spelled kind)

-- decoding a slot is exact (`Spelled`)
pub slot_spelled : Spelled slot_text IsSlot slot_in
unfolding slot_in slot_text
slot_spelled =
    respelled
    (first kind_spelled (for_each slot_kind contents_text IsSlot contents_in contents_spelled))
    (λ slot. refl) (λ slot is. is.1) (λ slot is. (tt, is))

pub reads_again : ReadsAgain
reads_again slot rest is = slot_spelled.again slot rest is

pub reads_only_text : ReadsOnlyText
reads_only_text bytes slot rest fits e =
    let t = slot_spelled.taken bytes (slot, rest) fits e in (t.1, t.0.parts)

-- Unless the HMAC has a collision, a context opens only with the proof and the binding with which
-- it was made.
use Rattle.std.specs.Prelude.{◌≡◌, ◌⊎◌, ◌<◌, ◌^◌, ℕ, List, length, Some, Ok}
use Rattle.tpm_bytes.specs.Reading.{AreBytes}
use Rattle.tpm_mac.specs.Hmac.{hmac_of}
use Rattle.tpm_mac.specs.declared.algorithm.HashAlg.TheVariants.{Sha256}
use Rattle.tpm_object.specs.Object.{IsObject}
use Rattle.tpm_object.specs.declared.object.Object.{Object}
use Rattle.tpm_record.specs.declared.hierarchy.Hierarchies.{Hierarchies}
use Rattle.tpm_sequence.specs.declared.object.SequenceObject.{SequenceObject}
use Rattle.tpm_sequence_text.specs.Slot.{IsSequenceObject, slot_text}
use Rattle.tpm_types_common.specs.declared.handle.HierarchyHandle.TheVariants as hierarchy
use Rattle.tpm_context.specs.Context.{context_text, object_cipher, object_in_context, context_proof}
use Rattle.tpm_context.specs.Head.{head_of, saved_of, sequence_head}
use Rattle.tpm_context.specs.Protection.{protected_text, restart_bound}
use Rattle.tpm_context.specs.Sequences.{null_proof, opened_sequence, sequence_cipher, sequence_context_text}
use Rattle.tpm_context.specs.declared.binding.Binding.{Binding}

-- The bytes are a context of this object, with some sequence number.
pub record IsContext (h : Hierarchies) (b : Binding) (bytes : List ℕ) (object : Object) : Type 0
  where
    pub sequence : ℕ
    pub counted : sequence < 2 ^ 64
    pub sized : IsObject object
    pub text : bytes ≡ context_text h b sequence object

-- A sequence object can be encoded: every number fits its integer type, and the encoding consists
-- of bytes.
pub record IsEncodable (object : SequenceObject) : Type 0 where
  pub sized : IsSequenceObject object
  pub bytes : AreBytes (slot_text (Some object))

-- The bytes are a context of this sequence object, with some sequence number.
pub record IsSequenceContext (h : Hierarchies) (b : Binding) (bytes : List ℕ)
    (object : SequenceObject) : Type 0
  where
    pub number : ℕ
    pub counted : number < 2 ^ 64
    pub sized : IsEncodable object
    pub text : bytes ≡ sequence_context_text h b number object

-- the values from which a context is made
pub record Making : Type 0 where
  pub hierarchies : Hierarchies
  pub binding : Binding
  pub sequence : ℕ
  pub object : Object

-- the context that is made from these values
abbrev pub context_of : Making → List ℕ
context_of c = context_text c.hierarchies c.binding c.sequence c.object

-- the HMAC key for the integrity value of a context
abbrev pub key_of : Making → List ℕ
key_of c = context_proof c.hierarchies c.object.hierarchy

-- the message that the integrity value of a context covers, for a reader with this binding
abbrev pub covered_text : Binding → Making → List ℕ
covered_text b c =
    protected_text b (head_of c.sequence c.object)
    (object_cipher c.hierarchies c.binding.start c.sequence c.object)

-- the restartCount to which an object's context is bound
abbrev pub restart_of : Binding → Object → ℕ
restart_of b object = restart_bound b (saved_of object.public)

-- Every number of a binding fits its integer type.
pub record IsBinding (b : Binding) : Type 0 where
  pub start : b.start < 2 ^ 64
  pub reset_count : b.reset_count < 2 ^ 32
  pub restart_count : b.restart_count < 2 ^ 32

-- A context can be made from these values: every number fits its integer type, and a device can
-- have the object.
pub record IsMaking (c : Making) : Type 0 where
  pub binding : IsBinding c.binding
  pub sequence : c.sequence < 2 ^ 64
  pub object : IsObject c.object

-- Two contexts have the same object and sequence number, and were made with the same proof, start
-- number and counts.
pub record AreSame (c d : Making) : Type 0 where
  pub key : key_of c ≡ key_of d
  pub start : c.binding.start ≡ d.binding.start
  pub reset_count : c.binding.reset_count ≡ d.binding.reset_count
  pub restart_count : restart_of c.binding c.object ≡ restart_of d.binding d.object
  pub sequence : c.sequence ≡ d.sequence
  pub object : c.object ≡ d.object

-- Two HMACs with SHA-256 are equal, although their keys or their messages differ.
pub record Collides (key text other_key other_text : List ℕ) : Type 0 where
  pub differ : (key ≡ other_key) × (text ≡ other_text) → ⊥
  pub same : hmac_of Sha256 key text ≡ hmac_of Sha256 other_key other_text

-- ---- the laws

-- Opening a context returns the object from which it was made.
abbrev pub OpensAgain : Type 0
OpensAgain =
    (c : Making) → IsMaking c → object_in_context c.hierarchies c.binding (context_of c)
    ≡ Ok c.object

-- Unless the HMAC has a collision, two contexts with the same integrity value have the same object,
-- sequence number, proof, start number and counts (`AreSame`).
abbrev pub IntegrityMeans : Type 0
IntegrityMeans =
    (c d : Making) → IsMaking c → IsMaking d
    → hmac_of Sha256 (key_of c) (covered_text c.binding c)
    ≡ hmac_of Sha256 (key_of d) (covered_text d.binding d)
    → AreSame c d
    ⊎ Collides (key_of c) (covered_text c.binding c) (key_of d) (covered_text d.binding d)

-- the values from which a context was made, with its hierarchies, binding and object replaced
abbrev pub made_with : Hierarchies → Binding → Object → Making → Making
made_with h b object c =
    record { hierarchies = h; binding = b; sequence = c.sequence; object = object }

-- A reader with these hierarchies and this binding computes the integrity value that the context
-- contains, although the reader's key or message differs.
abbrev pub CollidesFor : Hierarchies → Binding → Making → Type 0
CollidesFor h b c =
    Collides (key_of c) (covered_text c.binding c)
    (context_proof h c.object.hierarchy) (covered_text b c)

-- Unless the HMAC has a collision, a context opens only with the proof, start number and counts
-- with which it was made, and only as the object from which it was made.
abbrev pub OpensOnlyAsMade : Type 0
OpensOnlyAsMade =
    (c : Making) (h : Hierarchies) (b : Binding) (object : Object)
    → IsMaking c → IsBinding b → object_in_context h b (context_of c) ≡ Ok object
    → AreSame c (made_with h b object c) ⊎ CollidesFor h b c

-- A context that was made with another start number or another count of TPM Resets opens only if
-- the HMAC has a collision.
abbrev pub RefusesAnotherBinding : Type 0
RefusesAnotherBinding =
    (c : Making) (h : Hierarchies) (b : Binding) (object : Object)
    → IsMaking c → IsBinding b
    → ((c.binding.start ≡ b.start) × (c.binding.reset_count ≡ b.reset_count) → ⊥)
    → object_in_context h b (context_of c) ≡ Ok object → CollidesFor h b c

-- TPM2_Clear ends the contexts of the platform hierarchy, because it replaces the proof of the owner
-- hierarchy: the context of an object of the platform hierarchy opens with another owner proof only
-- if the HMAC has a collision.
abbrev pub RefusesAnotherOwner : Type 0
RefusesAnotherOwner =
    (c : Making) (h : Hierarchies) (b : Binding) (object : Object)
    → IsMaking c → IsBinding b → c.object.hierarchy ≡ hierarchy.Platform
    → length c.hierarchies.platform.secrets.proof ≡ length h.platform.secrets.proof
    → (c.hierarchies.owner.secrets.proof ≡ h.owner.secrets.proof → ⊥)
    → object_in_context h b (context_of c) ≡ Ok object → CollidesFor h b c

-- ---- the laws of sequence objects

-- Opening the context of a sequence object returns the sequence object from which it was made.
abbrev pub SequenceOpensAgain : Type 0
SequenceOpensAgain =
    (h : Hierarchies) (b : Binding) (number : ℕ) (object : SequenceObject)
    → number < 2 ^ 64 → IsEncodable object
    → opened_sequence h b (sequence_context_text h b number object) ≡ Ok object

-- the message that the integrity value of a sequence object's context covers, for a reader with the
-- binding `b`. The context was made with the hierarchies `h` and the binding `a`
abbrev pub sequence_covered : Hierarchies → (a b : Binding) → (number : ℕ) → SequenceObject
    → List ℕ
sequence_covered h a b number object =
    protected_text b (sequence_head number) (sequence_cipher h a.start number object)

-- A sequence object was read with the proof, start number and count of TPM Resets with which its
-- context was made, and is the one from which the context was made.
pub record IsAsMade (h later : Hierarchies) (a b : Binding) (object found : SequenceObject) : Type 0
  where
    pub proof : null_proof h ≡ null_proof later
    pub start : a.start ≡ b.start
    pub reset_count : a.reset_count ≡ b.reset_count
    pub same : object ≡ found

-- Unless the HMAC has a collision, two things are true of the context of a sequence object. It
-- opens only as the sequence object from which it was made. It opens only with the proof, the start
-- number and the count of TPM Resets with which it was made.
abbrev pub SequenceOpensOnlyAsMade : Type 0
SequenceOpensOnlyAsMade =
    (h later : Hierarchies) (a b : Binding) (number : ℕ) (object found : SequenceObject)
    → number < 2 ^ 64 → IsEncodable object → IsBinding a → IsBinding b
    → opened_sequence later b (sequence_context_text h a number object) ≡ Ok found
    → IsAsMade h later a b object found
    ⊎ Collides (null_proof h) (sequence_covered h a a number object)
    (null_proof later) (sequence_covered h a b number object)

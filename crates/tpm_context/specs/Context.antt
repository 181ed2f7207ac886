-- The context of an object: how it is written and read. TPM 2.0 Library, Part 1, section 30,
-- Part 2, section 14 (TPMS_CONTEXT), and Part 3, sections 28.2 and 28.3.
use Rattle.std.specs.Prelude.{◌≡◌, ℕ, ◌+◌, ◌==◌, not, List, ◌++◌, length, Result, Ok, Err}
use Rattle.std.specs.Str.{bytes_eq}
use Rattle.tpm_bytes.specs.Reading.{◌>>=◌, or_fault, refused_if, sized_at}
use Rattle.tpm_bytes.specs.Writing.{sized_text}
use Rattle.tpm_bytes.specs.declared.cursor.SizedFault.{SizedFault}
use Rattle.tpm_bytes.specs.declared.cursor.SizedFault.TheVariants as sized
use Rattle.tpm_image_text.specs.Body.{object_fields_in, object_fields_text}
use Rattle.tpm_image_text.specs.Sizes.{object_fields_size}
use Rattle.tpm_object.specs.declared.object.Object.{Object}
use Rattle.tpm_record.specs.declared.hierarchy.Hierarchies.{Hierarchies}
use Rattle.tpm_types_common.specs.declared.handle.HierarchyHandle.{HierarchyHandle}
use Rattle.tpm_types_common.specs.declared.handle.HierarchyHandle.TheVariants as hierarchy
use Rattle.tpm_context.specs.Head.{head_at, head_of, head_text, is_of}
use Rattle.tpm_context.specs.Protection.{ciphertext_of, integrity_of, plaintext_of}
use Rattle.tpm_context.specs.declared.binding.Binding.{Binding}
use Rattle.tpm_context.specs.declared.fault.ContextFault.{ContextFault}
use Rattle.tpm_context.specs.declared.fault.ContextFault.TheVariants as fault
use Rattle.tpm_context.specs.declared.head.ContextHead.{ContextHead}

-- the largest sizes of a contextBlob and of a context
abbrev pub blob_size : ℕ
blob_size = 34 + object_fields_size

abbrev pub context_size : ℕ
context_size = 18 + blob_size

-- the secret with which the contexts of a hierarchy are protected: the proof of the hierarchy. For
-- the platform hierarchy, the proof of the owner hierarchy follows. TPM2_Clear changes this proof,
-- but not the platform hierarchy's
abbrev pub context_proof : Hierarchies → HierarchyHandle → List ℕ
context_proof h hierarchy.Owner = h.owner.secrets.proof
context_proof h hierarchy.Endorsement = h.endorsement.secrets.proof
context_proof h hierarchy.Platform = h.platform.secrets.proof ++ h.owner.secrets.proof
context_proof h hierarchy.Null = h.null.proof

-- ---- writing a context

-- a contextBlob: the integrity value as a sized buffer, then the encrypted object
abbrev pub blob_text : (integrity cipher : List ℕ) → List ℕ
blob_text integrity cipher = sized_text integrity ++ cipher

-- the context with this head and this encrypted object
abbrev pub sealed_text : (proof : List ℕ) → Binding → ContextHead → (cipher : List ℕ) → List ℕ
sealed_text proof b head cipher =
    head_text head ++ sized_text (blob_text (integrity_of proof b head cipher) cipher)

-- the encrypted object of a context: its hierarchy, qualified Name, public area and sensitive
-- area, as in an image
abbrev pub object_cipher : Hierarchies → (start sequence : ℕ) → Object → List ℕ
object_cipher h start sequence object =
    ciphertext_of (context_proof h object.hierarchy) start (head_of sequence object)
    (object_fields_text object)

-- the context of an object, with this sequence number
unfoldable pub context_text : Hierarchies → Binding → (sequence : ℕ) → Object → List ℕ
context_text h b sequence object =
    sealed_text (context_proof h object.hierarchy) b (head_of sequence object)
    (object_cipher h b.start sequence object)

-- ---- reading a context

-- the fault if a contextBlob cannot be read: SIZE if it is longer than the longest contextBlob,
-- INSUFFICIENT if it is truncated
abbrev pub blob_fault : SizedFault → ContextFault
blob_fault sized.TooLong = fault.Size
blob_fault sized.Short = fault.Truncated

abbrev pub or_blob_fault : {X : Type 0} → Result X SizedFault → Result X ContextFault
or_blob_fault (Ok x) = Ok x
or_blob_fault (Err e) = Err (blob_fault e)

-- the contextBlob in the bytes after the head; the fault is SIZE if other bytes follow the
-- contextBlob
unfoldable pub blob_in : List ℕ → Result (List ℕ) ContextFault
blob_in text = do
  blob ← or_blob_fault (sized_at blob_size text)
  ended ← refused_if (not (length blob.1 == 0)) fault.Size
  Ok blob.0

-- the integrity value and the encrypted object in a contextBlob; the fault is SIZE if the integrity
-- value is truncated, or does not have the size of a SHA-256 digest
unfoldable pub parts_in : List ℕ → Result (List ℕ × List ℕ) ContextFault
parts_in blob = do
  parts ← or_fault (sized_at 32 blob) fault.Size
  whole ← refused_if (not (length parts.0 == 32)) fault.Size
  Ok parts

-- the object that a plaintext encodes. No bytes may follow the object, and its hierarchy and its
-- stClear must be those of the head
unfoldable pub object_in : ContextHead → (plain : List ℕ) → Result Object ContextFault
object_in head plain = do
  object ← or_fault (object_fields_in plain) fault.Integrity
  ended ← refused_if (not (length object.1 == 0)) fault.Integrity
  same ← refused_if (not (is_of head object.0)) fault.Integrity
  Ok object.0

-- the plaintext of a context with these parts, if the integrity value is correct
unfoldable pub plain_in : (proof : List ℕ)
    → Binding → ContextHead → (integrity cipher : List ℕ)
    → Result (List ℕ) ContextFault
plain_in proof b head integrity cipher = do
  right ← refused_if (not (bytes_eq integrity (integrity_of proof b head cipher)))
      fault.Integrity
  Ok (plaintext_of proof b.start head cipher)

-- the head and the plaintext of a context. The faults, in the order of the checks, are: those of
-- the head, which is read field by field; those of the contextBlob; bytes after the contextBlob; an
-- integrity value of the wrong size; and a wrong integrity value
unfoldable pub content_in : Hierarchies → Binding → List ℕ
    → Result (ContextHead × List ℕ) ContextFault
content_in h b bytes = do
  head ← head_at bytes
  blob ← blob_in head.1
  parts ← parts_in blob
  plain ← plain_in (context_proof h head.0.hierarchy) b head.0 parts.0 parts.1
  Ok (head.0, plain)

-- the object of a context; after the faults of `content_in`, the fault is INTEGRITY if the
-- plaintext does not encode an object that matches the head
unfoldable pub object_in_context : Hierarchies → Binding → List ℕ → Result Object ContextFault
object_in_context h b bytes = do
  content ← content_in h b bytes
  object_in content.0 content.1

-- ---- what the code does

-- The code decrypts a context as the definition says: the plaintext is in the buffer, or the fault
-- is returned.
abbrev pub Decrypts : Result (List ℕ) ContextFault → Result (Unit {0}) ContextFault
    → (buffer : List ℕ) → Type 0
Decrypts expected (Ok done) buffer = expected ≡ Ok buffer
Decrypts expected (Err e) buffer = expected ≡ Err e

abbrev pub DecryptsContent : Result (ContextHead × List ℕ) ContextFault
    → Result ContextHead ContextFault → (buffer : List ℕ) → Type 0
DecryptsContent expected (Ok head) buffer = expected ≡ Ok (head, buffer)
DecryptsContent expected (Err e) buffer = expected ≡ Err e

-- The context of a sequence object opens as this sequence object. Unless the HMAC has a collision,
-- it opens only with the proof, start number and count of TPM Resets with which it was made.
use Rattle.std.proofs.Common.{◌≡◌, ◌⊎◌, ℕ, ◌≤◌, Bool, List, [], ◌++◌, length, Option, Some, None, Result, Ok, Err, refl, sym, ap, subst, ◌∙◌, append-nil, arith, inl, inr}
use Rattle.std.specs.Prelude.{◌==◌, not, ok_or, IfOk}
use Rattle.tpm_bytes.specs.Reading.{◌>>=◌, or_fault, refused_if}
use Rattle.tpm_bytes.proofs.Fields.{AreBytes, bind_ok, ok_is, or_fault_ok, passed}
use Rattle.tpm_image_text.proofs.Bytes.{are_bytes-Decides, bytes_hold}
use Rattle.tpm_image_text.proofs.FieldSpelling.{not_false}
use Rattle.tpm_image_text.specs.Fields.{are_bytes}
use Rattle.tpm_image_text.specs.Sizes.{object_fields_size}
use Rattle.tpm_image_text.specs.declared.fault.Malformed.{Malformed}
use Rattle.tpm_mac.specs.Hmac.{hmac_of}
use Rattle.tpm_mac.specs.declared.algorithm.HashAlg.TheVariants.{Sha256}
use Rattle.tpm_record.specs.declared.hierarchy.Hierarchies.{Hierarchies}
use Rattle.tpm_sequence.specs.declared.object.SequenceObject.{SequenceObject}
use Rattle.tpm_sequence_text.proofs.SizeLaws.{stays_small}
use Rattle.tpm_sequence_text.proofs.SlotLaws.{slot_spelled}
use Rattle.tpm_sequence_text.specs.Slot.{IsSequenceObject, IsSlot, slot_in, slot_text}
use Rattle.tpm_types_common.proofs.SelectionLaws.{is_equal}
use Rattle.tpm_context.proofs.ContextLaws.{Alike, alike, parted, same_bound}
use Rattle.tpm_context.proofs.HeadLaws.{sequence_head_is}
use Rattle.tpm_context.proofs.Reading.{content_found, content_opens, content_right, decrypted_again, encrypted_size, none_left}
use Rattle.tpm_context.specs.Context.{content_in, context_proof, sealed_text}
use Rattle.tpm_context.specs.Head.{is_sequence_head, sequence_head}
use Rattle.tpm_context.specs.Meaning.{Collides, IsAsMade, IsBinding, IsEncodable, IsSequenceContext, SequenceOpensAgain, SequenceOpensOnlyAsMade, sequence_covered}
use Rattle.tpm_context.specs.Protection.{bound_text, ciphertext_of, integrity_of, plaintext_of, protected_text}
use Rattle.tpm_context.specs.Sequences.{null_proof, opened_sequence, sequence_cipher, sequence_context_text, sequence_in}
use Rattle.tpm_context.specs.declared.binding.Binding.{Binding}
use Rattle.tpm_context.specs.declared.fault.ContextFault.{ContextFault}
use Rattle.tpm_context.specs.declared.fault.ContextFault.TheVariants as fault
use Rattle.tpm_context.specs.declared.head.ContextHead.{ContextHead}

-- ---- the content

-- decoding the encoding of a sequence object returns the sequence object
slot_again : (object : SequenceObject) → IsSequenceObject object
    → slot_in (slot_text (Some object)) ≡ Ok (Some object, [])
slot_again object is = ap slot_in (sym (append-nil (slot_text (Some object))))
    ∙ slot_spelled.again (Some object) [] is

-- the sequence object that a plaintext encodes, if the head is that of a sequence object's context
abbrev slot_result : ContextHead → List ℕ → Result SequenceObject ContextFault
slot_result head plain =
    or_fault (slot_in plain) fault.Integrity
    >>= λ x. refused_if (not (length x.1 == 0)) fault.Integrity
    >>= λ ended. refused_if (not (is_sequence_head head)) fault.Integrity
    >>= λ same. ok_or x.0 fault.Integrity

slot_opens : (number : ℕ) (object : SequenceObject) → IsSequenceObject object
    → slot_result (sequence_head number) (slot_text (Some object)) ≡ Ok object
slot_opens number object is =
    ap (λ (r : Result (Option SequenceObject × List ℕ) Malformed). or_fault r fault.Integrity
    >>= λ x. refused_if (not (length x.1 == 0)) fault.Integrity
    >>= λ ended. refused_if (not (is_sequence_head (sequence_head number))) fault.Integrity
    >>= λ same. ok_or x.0 fault.Integrity)
    (slot_again object is)

sequence_again : (number : ℕ) (object : SequenceObject) → IsEncodable object
    → sequence_in (sequence_head number) (slot_text (Some object)) ≡ Ok object
unfolding sequence_in
sequence_again number object is =
    ap (λ (b : Bool). refused_if (not b) fault.Integrity
    >>= λ bytes. slot_result (sequence_head number) (slot_text (Some object)))
    (bytes_hold (slot_text (Some object)) is.bytes)
    ∙ slot_opens number object is.sized

some_of : (slot : Option SequenceObject) (object : SequenceObject)
    → ok_or slot fault.Integrity ≡ Ok object → slot ≡ Some object
some_of (Some own) object e = ap Some (ok_is {E = ContextFault} own object e)
some_of None object e = absurd cc

-- if a plaintext and a head are read as a sequence object, the plaintext is the encoding of this
-- sequence object, and the head is that of a sequence object's context
pub sequence_found : (head : ContextHead) (plain : List ℕ) (object : SequenceObject)
    → sequence_in head plain ≡ Ok object
    → IsEncodable object × (plain ≡ slot_text (Some object)) × (sequence_head head.sequence ≡ head)
unfolding sequence_in
sequence_found head plain object e =
    let z = bind_ok (refused_if (not (are_bytes plain)) fault.Integrity)
    (λ bytes. slot_result head plain) object e in
    let are = (are_bytes-Decides plain).0
    (not_false (are_bytes plain) (passed (not (are_bytes plain)) fault.Integrity z.0 z.1)) in
    let a = bind_ok (or_fault (slot_in plain) fault.Integrity)
    (λ x. refused_if (not (length x.1 == 0)) fault.Integrity
    >>= λ ended. refused_if (not (is_sequence_head head)) fault.Integrity
    >>= λ same. ok_or x.0 fault.Integrity) object z.2 in
    let b = bind_ok (refused_if (not (length a.0.1 == 0)) fault.Integrity)
    (λ ended. refused_if (not (is_sequence_head head)) fault.Integrity
    >>= λ same. ok_or a.0.0 fault.Integrity) object a.2 in
    let c = bind_ok (refused_if (not (is_sequence_head head)) fault.Integrity)
    (λ same. ok_or a.0.0 fault.Integrity) object b.2 in
    let none =
    none_left a.0.1
    (is_equal (length a.0.1) 0 (passed (not (length a.0.1 == 0)) fault.Integrity b.0 b.1)) in
    let t = slot_spelled.taken plain a.0 are
    (or_fault_ok (slot_in plain) fault.Integrity a.0 a.1) in
    let parts : plain ≡ slot_text a.0.0 = t.0.parts ∙ ap (λ (l : List ℕ). slot_text a.0.0 ++ l) none
    ∙ append-nil (slot_text a.0.0) in
    let some = some_of a.0.0 object c.2 in
    let same =
    sequence_head_is head
    (not_false (is_sequence_head head)
    (passed (not (is_sequence_head head)) fault.Integrity c.0 c.1)) in
    let text : plain ≡ slot_text (Some object) = parts ∙ ap slot_text some in
    (record { sized = subst IsSlot some t.1; bytes = subst AreBytes text are }, text, same)

-- ---- the whole context

slot_few : (object : SequenceObject) → IsSequenceObject object
    → length (slot_text (Some object)) ≤ object_fields_size
slot_few object is = omega (arith, stays_small (Some object) is)

pub sequence_opens_again : SequenceOpensAgain
unfolding opened_sequence sequence_context_text
sequence_opens_again h b number object counted is =
    ap (λ (r : Result (ContextHead × List ℕ) ContextFault). r >>= λ x. sequence_in x.0 x.1)
    (content_opens h b (sequence_head number) (slot_text (Some object)) counted
    (slot_few object is.sized))
    ∙ sequence_again number object is

cipher_few : (h : Hierarchies) (start number : ℕ) (object : SequenceObject)
    → IsSequenceObject object → length (sequence_cipher h start number object) ≤ object_fields_size
cipher_few h start number object is =
    subst (λ (n : ℕ). n ≤ object_fields_size)
    (sym (encrypted_size (null_proof h) start (sequence_head number) (slot_text (Some object))))
    (slot_few object is)

-- if two integrity values are equal, then so are the two HMACs by which they are defined
hmacs_of : (own other : List ℕ) (a b : Binding) (head : ContextHead) (cipher : List ℕ)
    → integrity_of own a head cipher ≡ integrity_of other b head cipher
    → hmac_of Sha256 own (protected_text a head cipher)
    ≡ hmac_of Sha256 other (protected_text b head cipher)
unfolding integrity_of
hmacs_of own other a b head cipher e = e

pub sequence_opens_only_as_made : SequenceOpensOnlyAsMade
unfolding opened_sequence sequence_context_text
sequence_opens_only_as_made h later a b number object found counted is first second e =
    let read = bind_ok (content_in later b (sealed_text own a head cipher))
    (λ x. sequence_in x.0 x.1) found e in
    let right = content_right later a b own head cipher read.0 counted
    (cipher_few h a.start number object is.sized) read.1 in
    by (ap (λ (x : ContextHead × List ℕ). sequence_in x.0 x.1) right.1 ∙ read.2)
    (alike own (protected_text a head cipher) other (protected_text b head cipher)
    (hmacs_of own other a b head cipher right.0))
  where
    own : List ℕ
    own = null_proof h

    other : List ℕ
    other = null_proof later

    head : ContextHead
    head = sequence_head number

    cipher : List ℕ
    cipher = sequence_cipher h a.start number object

    by : sequence_in head (plaintext_of other b.start head cipher) ≡ Ok found
        → Alike own (protected_text a head cipher) other (protected_text b head cipher)
        → IsAsMade h later a b object found
        ⊎ Collides own (sequence_covered h a a number object) other
        (sequence_covered h a b number object)
    by opens (inr collision) = inr collision
    by opens (inl same) =
        let t = parted (bound_text a head) (bound_text b head) cipher cipher refl same.1 in
        let fields = same_bound a b head head first second counted counted t.0 in
        let plain : plaintext_of other b.start head cipher ≡ slot_text (Some object) =
        ap (λ (p : List ℕ). plaintext_of p b.start head cipher) (sym same.0)
        ∙ ap (λ (s : ℕ). plaintext_of own s head cipher) (sym fields.start)
        ∙ decrypted_again own a.start head (slot_text (Some object)) in
        inl (
        record {
          proof = same.0;
          start = fields.start;
          reset_count = fields.reset_count;
          same = ok_is {E = ContextFault} object found
              (sym (sequence_again number object is) ∙ ap (sequence_in head) (sym plain) ∙ opens);
        }
        )

-- ---- what the code finds

-- if bytes open as a sequence object, they are a context of this sequence object
sequence_context_found : (h : Hierarchies) (b : Binding) (bytes : List ℕ) (head : ContextHead)
    (plain : List ℕ) (object : SequenceObject)
    → AreBytes bytes → content_in h b bytes ≡ Ok (head, plain) → sequence_in head plain ≡ Ok object
    → IsSequenceContext h b bytes object
unfolding sequence_context_text
sequence_context_found h b bytes head plain object fits content e =
    let t = content_found h b bytes head plain fits content in
    let f = sequence_found head plain object e in
    record {
      number = head.sequence;
      counted = t.1;
      sized = f.0;
      text = t.0
          ∙ ap (λ (p : List ℕ). sealed_text (context_proof h head.hierarchy) b head
          (ciphertext_of (context_proof h head.hierarchy) b.start head p)) f.1
          ∙ ap (λ (k : ContextHead). sealed_text (context_proof h k.hierarchy) b k
          (ciphertext_of (context_proof h k.hierarchy) b.start k (slot_text (Some object))))
          (sym f.2);
    }

pub sequence_found_if : (h : Hierarchies) (b : Binding) (bytes : List ℕ) (head : ContextHead)
    (plain : List ℕ) (r : Result SequenceObject ContextFault)
    → AreBytes bytes → content_in h b bytes ≡ Ok (head, plain) → r ≡ sequence_in head plain
    → IfOk r (λ object. IsSequenceContext h b bytes object)
sequence_found_if h b bytes head plain (Ok object) fits content is =
    sequence_context_found h b bytes head plain object fits content (sym is)
sequence_found_if h b bytes head plain (Err e) fits content is = tt

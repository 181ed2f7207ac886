-- Bytes can be read as a context if and only if they are a context that can be made.
use Rattle.std.proofs.Common.{◌≡◌, ℕ, ◌^◌, ◌<◌, ◌≤◌, Bool, List, [], ◌∷◌, ◌++◌, length, Result, Ok, Err, refl, sym, ap, subst, ◌∙◌, append-nil, length-append, arith}
use Rattle.std.specs.Prelude.{◌==◌, not, IfOk}
use Rattle.std.specs.Str.{bytes_eq}
use Rattle.std.proofs.lemmas.Slice.Eq.{bytes_eq-Decides}
use Rattle.tpm_aes.proofs.Undone.{cfb_redone, cfb_undone, length-cfb_encrypt_of}
use Rattle.std.specs.Int.{w16, to_be_bytes}
use Rattle.tpm_bytes.specs.Reading.{◌>>=◌, or_fault, refused_if, sized_at}
use Rattle.tpm_bytes.specs.Writing.{sized_text}
use Rattle.tpm_bytes.specs.declared.cursor.SizedFault.{SizedFault}
use Rattle.tpm_bytes.proofs.Fields.{AreBytes, bind_ok, ok_is, or_fault_ok, passed, sized_again, sized_takes}
use Rattle.tpm_image_text.proofs.FieldSpelling.{not_false}
use Rattle.tpm_image_text.proofs.ObjectLaws.{object_fields_small, object_fields_spelled}
use Rattle.tpm_image_text.specs.Body.{object_fields_in, object_fields_text}
use Rattle.tpm_image_text.specs.Sizes.{object_fields_size}
use Rattle.tpm_image_text.specs.declared.fault.Malformed.{Malformed}
use Rattle.tpm_mac.proofs.DigestSize.{length-hmac_of}
use Rattle.tpm_mac.specs.declared.algorithm.HashAlg.TheVariants.{Sha256}
use Rattle.tpm_object.specs.Object.{IsObject}
use Rattle.tpm_object.specs.declared.object.Object.{Object}
use Rattle.tpm_record.specs.declared.hierarchy.Hierarchies.{Hierarchies}
use Rattle.tpm_types_common.proofs.SelectionLaws.{is_equal}
use Rattle.tpm_types_common.proofs.Spelled.{rest_fits}
use Rattle.tpm_context.proofs.HeadLaws.{head_spelled, is_of_head, is_of_own}
use Rattle.tpm_context.specs.Context.{blob_in, blob_size, blob_text, content_in, context_text, object_cipher, object_in, object_in_context, or_blob_fault, parts_in, plain_in, context_proof, sealed_text}
use Rattle.tpm_context.specs.Head.{head_at, head_of, head_text, is_of}
use Rattle.tpm_context.specs.Meaning.{IsContext}
use Rattle.tpm_context.specs.Protection.{cipher_bytes, cipher_iv, cipher_key, ciphertext_of, integrity_of, plaintext_of, protected_text}
use Rattle.tpm_context.specs.declared.binding.Binding.{Binding}
use Rattle.tpm_context.specs.declared.fault.ContextFault.{ContextFault}
use Rattle.tpm_context.specs.declared.fault.ContextFault.TheVariants as fault
use Rattle.tpm_context.specs.declared.head.ContextHead.{ContextHead}

-- ---- sizes

pub integrity_size : (proof : List ℕ) (b : Binding) (head : ContextHead) (cipher : List ℕ)
    → length (integrity_of proof b head cipher) ≡ 32
unfolding integrity_of
integrity_size proof b head cipher = length-hmac_of Sha256 proof (protected_text b head cipher)

pub encrypted_size : (proof : List ℕ) (start : ℕ) (head : ContextHead) (plain : List ℕ)
    → length (ciphertext_of proof start head plain) ≡ length plain
encrypted_size proof start head plain =
    length-cfb_encrypt_of (cipher_key (cipher_bytes proof start head))
    (cipher_iv (cipher_bytes proof start head)) plain

pub cipher_small : (h : Hierarchies) (start sequence : ℕ) (o : Object) → IsObject o
    → length (object_cipher h start sequence o) ≤ object_fields_size
cipher_small h start sequence o is =
    subst (λ (n : ℕ). n ≤ object_fields_size)
    (sym (encrypted_size (context_proof h o.hierarchy) start (head_of sequence o)
    (object_fields_text o)))
    (object_fields_small o is)

pub decrypted_again : (proof : List ℕ) (start : ℕ) (head : ContextHead) (plain : List ℕ)
    → plaintext_of proof start head (ciphertext_of proof start head plain) ≡ plain
decrypted_again proof start head plain =
    cfb_undone (cipher_key (cipher_bytes proof start head))
    (cipher_iv (cipher_bytes proof start head)) plain

pub encrypted_again : (proof : List ℕ) (start : ℕ) (head : ContextHead) (cipher : List ℕ)
    → ciphertext_of proof start head (plaintext_of proof start head cipher) ≡ cipher
encrypted_again proof start head cipher =
    cfb_redone (cipher_key (cipher_bytes proof start head))
    (cipher_iv (cipher_bytes proof start head)) cipher

-- ---- the contextBlob

blob_again : (blob : List ℕ) → length blob ≤ blob_size → blob_in (sized_text blob) ≡ Ok blob
unfolding blob_in
blob_again blob small =
    let whole = or_fault_ok (sized_at blob_size (sized_text blob ++ [])) fault.Size (blob, [])
    (sized_again blob_size fault.Size blob [] (omega arith) small) in
    let read : sized_at blob_size (sized_text blob) ≡ Ok (blob, []) =
    ap (sized_at blob_size) (sym (append-nil (sized_text blob))) ∙ whole in
    ap (λ (r : Result (List ℕ × List ℕ) SizedFault). or_blob_fault r
    >>= λ x. refused_if (not (length x.1 == 0)) fault.Size >>= λ ended. Ok x.0) read

or_blob_ok : (r : Result (List ℕ × List ℕ) SizedFault) (x : List ℕ × List ℕ)
    → or_blob_fault r ≡ Ok x → r ≡ Ok x
or_blob_ok (Ok y) x e = cc
or_blob_ok (Err d) x e = absurd cc

pub none_left : (bytes : List ℕ) → length bytes ≡ 0 → bytes ≡ []
none_left [] e = refl
none_left (byte ∷ bytes) e = absurd (omega arith)

-- if a read succeeds, replacing the faults that it can return does not change its result
sized_read : (limit : ℕ) (bytes : List ℕ) (x : List ℕ × List ℕ) → sized_at limit bytes ≡ Ok x
    → or_fault (sized_at limit bytes) fault.Size ≡ Ok x
sized_read limit bytes x e = ap (λ (r : Result (List ℕ × List ℕ) SizedFault). or_fault r fault.Size)
    e

-- if a contextBlob is decoded from bytes, the bytes are this blob in a sized buffer
pub blob_found : (text blob : List ℕ) → AreBytes text → blob_in text ≡ Ok blob
    → (text ≡ sized_text blob) × (length blob ≤ blob_size) × AreBytes blob
unfolding blob_in
blob_found text blob fits e =
    let a = bind_ok (or_blob_fault (sized_at blob_size text))
    (λ x. refused_if (not (length x.1 == 0)) fault.Size >>= λ ended. Ok x.0) blob e in
    let b = bind_ok (refused_if (not (length a.0.1 == 0)) fault.Size) (λ ended. Ok a.0.0) blob
    a.2 in
    let none =
    none_left a.0.1
    (is_equal (length a.0.1) 0 (passed (not (length a.0.1 == 0)) fault.Size b.0 b.1)) in
    let t = sized_takes blob_size fault.Size text a.0 fits
    (sized_read blob_size text a.0 (or_blob_ok (sized_at blob_size text) a.0 a.1)) in
    let parts : text ≡ sized_text a.0.0 =
    t.0.parts ∙ ap (λ (l : List ℕ). sized_text a.0.0 ++ l) none
    ∙ append-nil (sized_text a.0.0) in
    subst (λ (l : List ℕ). (text ≡ sized_text l) × (length l ≤ blob_size) × AreBytes l)
    (ok_is a.0.0 blob b.2)
    (parts, t.2, behind a.0.0 (subst AreBytes parts fits))
  where
    behind : (l : List ℕ) → AreBytes (sized_text l) → AreBytes l
    behind l fits = rest_fits (to_be_bytes w16 (length l)) l fits

parts_again : (integrity cipher : List ℕ) → length integrity ≡ 32
    → parts_in (blob_text integrity cipher) ≡ Ok (integrity, cipher)
unfolding parts_in
parts_again integrity cipher whole =
    rw (
      sized_again 32 fault.Size integrity cipher (omega (arith, whole)) (omega (arith, whole)),
      whole,
    ) refl

pub parts_found : (blob integrity cipher : List ℕ) → AreBytes blob
    → parts_in blob ≡ Ok (integrity, cipher) → (blob ≡ blob_text integrity cipher)
    × (length integrity ≡ 32)
unfolding parts_in
parts_found blob integrity cipher fits e =
    let a = bind_ok (or_fault (sized_at 32 blob) fault.Size)
    (λ x. refused_if (not (length x.0 == 32)) fault.Size >>= λ whole. Ok x) (integrity, cipher)
    e in
    let b = bind_ok (refused_if (not (length a.0.0 == 32)) fault.Size) (λ whole. Ok a.0)
    (integrity, cipher) a.2 in
    let whole = is_equal (length a.0.0) 32 (passed (not (length a.0.0 == 32)) fault.Size b.0 b.1) in
    let t = sized_takes 32 fault.Size blob a.0 fits a.1 in
    subst (λ (p : List ℕ × List ℕ). (blob ≡ blob_text p.0 p.1) × (length p.0 ≡ 32))
    (ok_is a.0 (integrity, cipher) b.2)
    (t.0.parts, whole)

-- ---- the object

pub object_again : (sequence : ℕ) (o : Object) → IsObject o
    → object_in (head_of sequence o) (object_fields_text o) ≡ Ok o
unfolding object_in
object_again sequence o is =
    let text : List ℕ = object_fields_text o in
    let read : object_fields_in text ≡ Ok (o, []) =
    ap object_fields_in (sym (append-nil text)) ∙ object_fields_spelled.again o [] is in
    ap (λ (r : Result (Object × List ℕ) Malformed). or_fault r fault.Integrity
    >>= λ x. refused_if (not (length x.1 == 0)) fault.Integrity
    >>= λ ended. refused_if (not (is_of (head_of sequence o) x.0)) fault.Integrity
    >>= λ same. Ok x.0) read
    ∙ ap (λ (b : Bool). refused_if (not b) fault.Integrity >>= λ same. Ok o) (is_of_own sequence o)

pub object_found : (head : ContextHead) (plain : List ℕ) (o : Object) → AreBytes plain
    → object_in head plain ≡ Ok o
    → IsObject o × (plain ≡ object_fields_text o) × (head_of head.sequence o ≡ head)
unfolding object_in
object_found head plain o fits e =
    let a = bind_ok (or_fault (object_fields_in plain) fault.Integrity)
    (λ x. refused_if (not (length x.1 == 0)) fault.Integrity
    >>= λ ended. refused_if (not (is_of head x.0)) fault.Integrity >>= λ same. Ok x.0) o e in
    let b = bind_ok (refused_if (not (length a.0.1 == 0)) fault.Integrity)
    (λ ended. refused_if (not (is_of head a.0.0)) fault.Integrity >>= λ same. Ok a.0.0) o a.2 in
    let c = bind_ok (refused_if (not (is_of head a.0.0)) fault.Integrity) (λ same. Ok a.0.0) o
    b.2 in
    let none =
    none_left a.0.1
    (is_equal (length a.0.1) 0 (passed (not (length a.0.1 == 0)) fault.Integrity b.0 b.1)) in
    let t = object_fields_spelled.taken plain a.0 fits
    (or_fault_ok (object_fields_in plain) fault.Integrity a.0 a.1) in
    let parts : plain ≡ object_fields_text a.0.0 =
    t.0.parts ∙ ap (λ (l : List ℕ). object_fields_text a.0.0 ++ l) none
    ∙ append-nil (object_fields_text a.0.0) in
    let same =
    is_of_head head a.0.0
    (not_false (is_of head a.0.0) (passed (not (is_of head a.0.0)) fault.Integrity c.0 c.1)) in
    subst (λ (p : Object). IsObject p × (plain ≡ object_fields_text p)
    × (head_of head.sequence p ≡ head)) (ok_is a.0.0 o c.2)
    (t.1, parts, same)

-- ---- the whole context

-- a plaintext with its head
abbrev with_head : ContextHead → List ℕ → Result (ContextHead × List ℕ) ContextFault
with_head head plain = Ok (head, plain)

-- reading a context splits it into the parts from which it was made, even if the reader has another
-- binding
content_is : (h : Hierarchies) (a b : Binding) (proof : List ℕ) (head : ContextHead)
    (cipher : List ℕ)
    → head.sequence < 2 ^ 64 → length cipher ≤ object_fields_size
    → content_in h b (sealed_text proof a head cipher)
    ≡ (plain_in (context_proof h head.hierarchy) b head (integrity_of proof a head cipher) cipher
    >>= with_head head)
unfolding content_in
content_is h a b proof head cipher counted small =
    let integrity : List ℕ = integrity_of proof a head cipher in
    let blob : List ℕ = blob_text integrity cipher in
    let whole : length integrity ≡ 32 = integrity_size proof a head cipher in
    let fits : length blob ≤ blob_size = simp length-append (omega (arith, small, whole)) in
    ap (λ (r : Result (ContextHead × List ℕ) ContextFault). r >>= λ x. blob_in x.1
    >>= λ l. parts_in l >>= λ p. plain_in (context_proof h x.0.hierarchy) b x.0 p.0 p.1
    >>= with_head x.0) (head_spelled.again head (sized_text blob) counted)
    ∙ ap (λ (r : Result (List ℕ) ContextFault). r >>= λ l. parts_in l
    >>= λ p. plain_in (context_proof h head.hierarchy) b head p.0 p.1 >>= with_head head)
    (blob_again blob fits)
    ∙ ap (λ (r : Result (List ℕ × List ℕ) ContextFault). r
    >>= λ p. plain_in (context_proof h head.hierarchy) b head p.0 p.1 >>= with_head head)
    (parts_again integrity cipher whole)

-- if the integrity value of a context is correct, the context is decrypted
plain_opens : (proof : List ℕ) (b : Binding) (head : ContextHead) (cipher : List ℕ)
    → plain_in proof b head (integrity_of proof b head cipher) cipher
    ≡ Ok (plaintext_of proof b.start head cipher)
unfolding plain_in
plain_opens proof b head cipher =
    let value : List ℕ = integrity_of proof b head cipher in
    ap (λ (right : Bool). refused_if (not right) fault.Integrity
    >>= λ passed. let z : Result (List ℕ) ContextFault =
    Ok (plaintext_of proof b.start head cipher) in z) ((bytes_eq-Decides value value).1 refl)

-- if a context is decrypted, its integrity value is correct
plain_right : (proof : List ℕ) (b : Binding) (head : ContextHead) (integrity cipher plain : List ℕ)
    → plain_in proof b head integrity cipher ≡ Ok plain
    → (integrity ≡ integrity_of proof b head cipher)
    × (plaintext_of proof b.start head cipher ≡ plain)
unfolding plain_in
plain_right proof b head integrity cipher plain e =
    let value : List ℕ = integrity_of proof b head cipher in
    let a = bind_ok (refused_if (not (bytes_eq integrity value)) fault.Integrity)
    (λ right. let z : Result (List ℕ) ContextFault =
    Ok (plaintext_of proof b.start head cipher) in z) plain e in (
      (bytes_eq-Decides integrity value).0
          (not_false _ (passed (not (bytes_eq integrity value)) fault.Integrity a.0 a.1)),
      ok_is {E = ContextFault} (plaintext_of proof b.start head cipher) plain a.2,
    )

-- reading a context with the binding with which it was made returns its head and its content
pub content_opens : (h : Hierarchies) (b : Binding) (head : ContextHead) (plain : List ℕ)
    → head.sequence < 2 ^ 64 → length plain ≤ object_fields_size
    → content_in h b
    (sealed_text (context_proof h head.hierarchy) b head
    (ciphertext_of (context_proof h head.hierarchy) b.start head plain)) ≡ Ok (head, plain)
content_opens h b head plain counted small =
    let proof : List ℕ = context_proof h head.hierarchy in
    let cipher : List ℕ = ciphertext_of proof b.start head plain in
    let few = subst (λ (n : ℕ). n ≤ object_fields_size)
    (sym (encrypted_size proof b.start head plain)) small in
    content_is h b b proof head cipher counted few
    ∙ ap (λ (r : Result (List ℕ) ContextFault). r >>= with_head head)
    (plain_opens proof b head cipher)
    ∙ ap (with_head head) (decrypted_again proof b.start head plain)

-- if a context can be read, its integrity value is correct for the reader, and the result is its
-- head and its decrypted content
pub content_right : (h : Hierarchies) (a b : Binding) (proof : List ℕ) (head : ContextHead)
    (cipher : List ℕ) (x : ContextHead × List ℕ)
    → head.sequence < 2 ^ 64 → length cipher ≤ object_fields_size
    → content_in h b (sealed_text proof a head cipher) ≡ Ok x
    → (integrity_of proof a head cipher ≡ integrity_of (context_proof h head.hierarchy) b head cipher)
    × ((head, plaintext_of (context_proof h head.hierarchy) b.start head cipher) ≡ x)
content_right h a b proof head cipher x counted small e =
    let own : List ℕ = context_proof h head.hierarchy in
    let integrity : List ℕ = integrity_of proof a head cipher in
    let z = bind_ok (plain_in own b head integrity cipher) (with_head head) x
    (sym (content_is h a b proof head cipher counted small) ∙ e) in
    let w = plain_right own b head integrity cipher z.0 z.1 in (
      w.0,
      ap (λ (p : List ℕ). let y : ContextHead × List ℕ = (head, p) in y) w.1
          ∙ ok_is {E = ContextFault} (head, z.0) x z.2,
    )

-- if a context can be read, it was made from its head and its content
pub content_found : (h : Hierarchies) (b : Binding) (bytes : List ℕ) (head : ContextHead)
    (plain : List ℕ)
    → AreBytes bytes → content_in h b bytes ≡ Ok (head, plain)
    → (bytes ≡ sealed_text (context_proof h head.hierarchy) b head
    (ciphertext_of (context_proof h head.hierarchy) b.start head plain)) × (head.sequence < 2 ^ 64)
unfolding content_in
content_found h b bytes head plain fits e =
    let one =
    bind_ok (head_at bytes) (λ x. blob_in x.1 >>= λ l. parts_in l
    >>= λ p. plain_in (context_proof h x.0.hierarchy) b x.0 p.0 p.1 >>= with_head x.0)
    (head, plain) e in
    let own = one.0.0 in
    let proof : List ℕ = context_proof h own.hierarchy in
    let two = bind_ok (blob_in one.0.1) (λ l. parts_in l >>= λ p. plain_in proof b own p.0 p.1
    >>= with_head own) (head, plain) one.2 in
    let three = bind_ok (parts_in two.0) (λ p. plain_in proof b own p.0 p.1 >>= with_head own)
    (head, plain) two.2 in
    let four = bind_ok (plain_in proof b own three.0.0 three.0.1) (with_head own) (head, plain)
    three.2 in
    let cipher : List ℕ = three.0.1 in
    let t = head_spelled.taken bytes one.0 fits one.1 in
    let u = blob_found one.0.1 two.0 t.0.rest_fits two.1 in
    let v = parts_found two.0 three.0.0 cipher u.2 three.1 in
    let w = plain_right proof b own three.0.0 cipher four.0 four.1 in
    let again : cipher ≡ ciphertext_of proof b.start own four.0 =
    sym (encrypted_again proof b.start own cipher) ∙ ap (ciphertext_of proof b.start own) w.1 in
    let whole : bytes ≡ sealed_text proof b own cipher =
    t.0.parts ∙ ap (λ (l : List ℕ). head_text own ++ l)
    (u.0 ∙ ap sized_text (v.0 ∙ ap (λ (i : List ℕ). blob_text i cipher) w.0)) in
    subst (λ (x : ContextHead × List ℕ).
    (bytes ≡ sealed_text (context_proof h x.0.hierarchy) b x.0
    (ciphertext_of (context_proof h x.0.hierarchy) b.start x.0 x.1)) × (x.0.sequence < 2 ^ 64))
    (ok_is {E = ContextFault} (own, four.0) (head, plain) four.2)
    (whole ∙ ap (sealed_text proof b own) again, t.1)

pub context_opens : (h : Hierarchies) (b : Binding) (sequence : ℕ) (o : Object) → sequence < 2 ^ 64
    → IsObject o
    → object_in_context h b (context_text h b sequence o) ≡ Ok o
unfolding object_in_context context_text
context_opens h b sequence o counted is =
    ap (λ (r : Result (ContextHead × List ℕ) ContextFault). r >>= λ x. object_in x.0 x.1)
    (content_opens h b (head_of sequence o) (object_fields_text o) counted
    (object_fields_small o is))
    ∙ object_again sequence o is

-- if bytes open as an object, they are a context of this object
context_found : (h : Hierarchies) (b : Binding) (bytes : List ℕ) (head : ContextHead)
    (plain : List ℕ) (o : Object)
    → AreBytes bytes → AreBytes plain → content_in h b bytes ≡ Ok (head, plain)
    → object_in head plain ≡ Ok o
    → IsContext h b bytes o
unfolding context_text
context_found h b bytes head plain o fits are content e =
    let t = content_found h b bytes head plain fits content in
    let f = object_found head plain o are e in
    record {
      sequence = head.sequence;
      counted = t.1;
      sized = f.0;
      text = t.0
          ∙ ap (λ (p : List ℕ). sealed_text (context_proof h head.hierarchy) b head
          (ciphertext_of (context_proof h head.hierarchy) b.start head p)) f.1
          ∙ ap (λ (k : ContextHead). sealed_text (context_proof h k.hierarchy) b k
          (ciphertext_of (context_proof h k.hierarchy) b.start k (object_fields_text o)))
          (sym f.2);
    }

-- ---- what the code finds

pub found_if : (h : Hierarchies) (b : Binding) (bytes : List ℕ) (head : ContextHead)
    (plain : List ℕ) (r : Result Object ContextFault)
    → AreBytes bytes → AreBytes plain → content_in h b bytes ≡ Ok (head, plain)
    → r ≡ object_in head plain
    → IfOk r (λ object. IsContext h b bytes object)
found_if h b bytes head plain (Ok o) fits are content is =
    context_found h b bytes head plain o fits are content (sym is)
found_if h b bytes head plain (Err e) fits are content is = tt

-- A wrapped sensitive area can be unwrapped. Conversely, any area that can be unwrapped was wrapped
-- by the parent.
use Rattle.std.proofs.Common.{◌≡◌, ℕ, ◌<◌, ◌≤◌, Bool, true, false, List, [], ◌++◌, length, Result, Ok, Err, refl, sym, ap, subst, ◌∙◌, append-nil, arith}
use Rattle.std.specs.Prelude.{◌==◌, ◌≢◌, not, IfOk}
use Rattle.std.specs.Str.{bytes_eq}
use Rattle.std.proofs.lemmas.Bool.{ne_eqb}
use Rattle.std.proofs.lemmas.Bool.Decides.{Decides-eqb}
use Rattle.std.proofs.lemmas.Slice.Eq.{bytes_eq-Decides}
use Rattle.tpm_aes.proofs.Undone.{cfb_undone, length-cfb_decrypt_of}
use Rattle.tpm_aes.specs.Cfb.{cfb_decrypt_of, cfb_encrypt_of}
use Rattle.tpm_bytes.specs.Reading.{◌>>=◌, or_fault, refused_if, sized_at}
use Rattle.tpm_bytes.specs.Writing.{sized_text}
use Rattle.tpm_bytes.proofs.Fields.{AreBytes, bind_ok, ok_is, or_fault_ok, passed, sized_again, sized_takes}
use Rattle.tpm_mac.proofs.DigestSize.{length-hmac_of}
use Rattle.tpm_mac.specs.Digest.{digest_size}
use Rattle.tpm_mac.specs.declared.algorithm.HashAlg.{HashAlg}
use Rattle.tpm_mac.specs.declared.algorithm.HashAlg.TheVariants.{Sha1, Sha256}
use Rattle.tpm_name.specs.ObjectName.{object_name}
use Rattle.tpm_types_common.specs.Filled.{filled_by}
use Rattle.tpm_types_object.specs.Public.{object_type, object_type_number}
use Rattle.tpm_types_object.specs.Sensitive.{IsSensitive, sensitive_at, sensitive_text}
use Rattle.tpm_types_object.specs.declared.public.ObjectType.{ObjectType}
use Rattle.tpm_types_object.specs.declared.public.ObjectType.TheVariants as object
use Rattle.tpm_types_object.specs.declared.public.Public.{Public}
use Rattle.tpm_types_object.specs.declared.sensitive.Sensitive.{Sensitive}
use Rattle.tpm_types_common.proofs.SelectionLaws.{is_equal}
use Rattle.tpm_types_object.proofs.SensitiveLaws.{sized_sensitive_spelled}
use Rattle.tpm_object.proofs.Longest.{sized_sensitive_most}
use Rattle.tpm_object.specs.PrivateArea.{IsProtected, IsWrapped, area_in, decrypted_area, encrypted_area, integrity_fault, integrity_key, integrity_of, private_text, protected_in, protected_text, authenticated_text, storage_key, unwrapped_sensitive}
use Rattle.tpm_object.specs.declared.object.Object.{Object}
use Rattle.tpm_object.specs.declared.private_area.IntegrityFault.{IntegrityFault}

not_false : (b : Bool) → not b ≡ false → b ≡ true
not_false true e = refl
not_false false e = absurd cc

-- ---- the integrity value

digest_small : (alg : HashAlg) → digest_size alg ≤ 32
digest_small Sha1 = omega arith
digest_small Sha256 = omega arith

integrity_small : (parent : Object) (name protected : List ℕ)
    → length (integrity_of parent name protected) ≤ 32
unfolding integrity_of
integrity_small parent name protected =
    omega (
      arith,
      digest_small parent.public.name_alg,
      length-hmac_of parent.public.name_alg (integrity_key parent) (protected ++ name),
    )

-- Reading an integrity value, followed by the bytes that it protects, returns these bytes.
protected_again : (parent : Object) (name protected : List ℕ)
    → protected_in parent name (authenticated_text parent name protected) ≡ Ok protected
unfolding protected_in
protected_again parent name protected =
    let value : List ℕ = integrity_of parent name protected in
    let small : length value ≤ 32 = integrity_small parent name protected in
    rw (
      sized_again 0xffff integrity_fault value protected (omega arith) (omega arith),
      (bytes_eq-Decides value value).1 refl,
    ) refl

-- If reading the input returns protected bytes, the input consists of their integrity value and of
-- the bytes themselves.
protected_found : (parent : Object) (name text protected : List ℕ)
    → AreBytes text → protected_in parent name text ≡ Ok protected
    → text ≡ authenticated_text parent name protected
unfolding protected_in
protected_found parent name text protected fits e =
    let f = integrity_fault in
    let a = bind_ok (or_fault (sized_at 0xffff text) f)
    (λ integrity. refused_if (not (bytes_eq integrity.0 (integrity_of parent name integrity.1))) f
    >>= λ right. Ok integrity.1) protected e in
    let value : List ℕ = integrity_of parent name a.0.1 in
    let b = bind_ok (refused_if (not (bytes_eq a.0.0 value)) f) (λ right. Ok a.0.1) protected a.2 in
    let t = sized_takes 0xffff f text a.0 fits a.1 in
    let same : bytes_eq a.0.0 value ≡ true =
    not_false _ (passed (not (bytes_eq a.0.0 value)) f b.0 b.1) in
    let right : a.0.0 ≡ value = (bytes_eq-Decides a.0.0 value).0 same in
    subst (λ (p : List ℕ). text ≡ authenticated_text parent name p) (ok_is a.0.1 protected b.2)
    (t.0.parts ∙ ap (λ (v : List ℕ). sized_text v ++ a.0.1) right)

-- ---- the encrypted area

-- Encoding an area in a sized buffer and then decoding it returns the area.
area_again : (area : Sensitive) → IsSensitive area
    → area_in (sized_text (sensitive_text area)) ≡ Ok area
unfolding area_in
area_again area is =
    let text : List ℕ = sized_text (sensitive_text area) in
    let read : filled_by sensitive_at text ≡ Ok (area, []) =
    ap (filled_by sensitive_at) (sym (append-nil text))
    ∙ sized_sensitive_spelled.again area [] is in
    rw read refl

-- An area in its sized buffer is at most 202 bytes long.
area_most : (plain : List ℕ) (area : Sensitive) → area_in plain ≡ Ok area → length plain ≤ 202
unfolding area_in
area_most plain area e =
    let f = integrity_fault in
    let a = bind_ok (or_fault (filled_by sensitive_at plain) f)
    (λ area. refused_if (not (length area.1 == 0)) f >>= λ whole. Ok area.0) area e in
    let b = bind_ok (refused_if (not (length a.0.1 == 0)) f) (λ whole. Ok a.0.0) area a.2 in
    let none = is_equal (length a.0.1) 0 (passed (not (length a.0.1 == 0)) f b.0 b.1) in
    omega (
      arith,
      none,
      sized_sensitive_most plain a.0
          (or_fault_ok (filled_by sensitive_at plain) f a.0 a.1),
    )

encrypted_undone : (parent : Object) (name iv : List ℕ) (area : Sensitive)
    → cfb_decrypt_of (storage_key parent name) iv (encrypted_area parent name iv area)
    ≡ sized_text (sensitive_text area)
unfolding encrypted_area
encrypted_undone parent name iv area =
    cfb_undone (storage_key parent name) iv (sized_text (sensitive_text area))

-- If an encrypted area is decrypted, the result is the original area.
decrypted_again : (parent : Object) (name iv : List ℕ) (area : Sensitive) → length iv ≡ 16
    → IsSensitive area
    → decrypted_area parent name (protected_text parent name iv area) ≡ Ok area
unfolding decrypted_area
decrypted_again parent name iv area whole is =
    let encrypted : List ℕ = encrypted_area parent name iv area in
    rw (
      sized_again 16 integrity_fault iv encrypted (omega arith) (omega arith),
      whole,
      encrypted_undone parent name iv area,
      area_again area is,
    ) refl

-- If decrypting some bytes yields an area, the bytes are the encryption of that area.
decrypted_found : (parent : Object) (name protected iv encrypted plain : List ℕ) (area : Sensitive)
    → AreBytes protected → sized_at 16 protected ≡ Ok (iv, encrypted) → length iv ≡ 16
    → cfb_encrypt_of (storage_key parent name) iv plain ≡ encrypted
    → plain ≡ sized_text (sensitive_text area)
    → IsProtected parent name protected area
unfolding encrypted_area
decrypted_found parent name protected iv encrypted plain area fits read whole undone spelled =
    let f = integrity_fault in
    let t = sized_takes 16 f protected (iv, encrypted) fits
    (ap (λ (r : Result (List ℕ × List ℕ) _). or_fault r f) read) in
    let again : encrypted ≡ encrypted_area parent name iv area =
    sym undone ∙ ap (cfb_encrypt_of (storage_key parent name) iv) spelled in
    (iv, whole, t.0.parts ∙ ap (λ (l : List ℕ). sized_text iv ++ l) again)

-- Input longer than 202 bytes, the largest size of an area in a sized buffer, is refused.
long_refused : (plain : List ℕ) → 202 < length plain → area_in plain ≡ Err integrity_fault
long_refused plain long = by (area_in plain) refl
  where
    by : (r : Result Sensitive IntegrityFault) → area_in plain ≡ r → r ≡ Err integrity_fault
    by (Ok area) is = absurd (omega (arith, area_most plain area is, long))
    by (Err fault) is = refl

long_cipher_refused : (parent : Object) (name iv encrypted : List ℕ) → 202 < length encrypted
    → area_in (cfb_decrypt_of (storage_key parent name) iv encrypted) ≡ Err integrity_fault
long_cipher_refused parent name iv encrypted long =
    long_refused (cfb_decrypt_of (storage_key parent name) iv encrypted)
    (omega (arith, long, length-cfb_decrypt_of (storage_key parent name) iv encrypted))

pub long_area_refused : (parent : Object) (name protected iv encrypted : List ℕ)
    → sized_at 16 protected ≡ Ok (iv, encrypted) → length iv ≡ 16 → 202 < length encrypted
    → decrypted_area parent name protected ≡ Err integrity_fault
unfolding decrypted_area
long_area_refused parent name protected iv encrypted read whole long =
    rw (read, whole, long_cipher_refused parent name iv encrypted long) refl

-- If some bytes can be decrypted and decoded, they are the protected form of the resulting area.
pub decrypted_law : (parent : Object) (name protected iv encrypted plain : List ℕ)
    (result : Result Sensitive IntegrityFault)
    → AreBytes protected → sized_at 16 protected ≡ Ok (iv, encrypted) → length iv ≡ 16
    → cfb_encrypt_of (storage_key parent name) iv plain ≡ encrypted
    → IfOk result (λ area. IsSensitive area × (plain ≡ sized_text (sensitive_text area)))
    → IfOk result (λ area. IsSensitive area × IsProtected parent name protected area)
decrypted_law parent name protected iv encrypted plain (Ok area) fits read whole undone is = (
  is.0,
  decrypted_found parent name protected iv encrypted plain area fits read whole undone
      is.1,
)
decrypted_law parent name protected iv encrypted plain (Err fault) fits read whole undone is = tt

-- ---- the private area

-- the sensitive area, if the two types are the same; otherwise the fault
abbrev of_type : (a b : ObjectType) → Sensitive → Result Sensitive IntegrityFault
of_type a b area =
    refused_if (not (object_type_number a == object_type_number b)) integrity_fault
    >>= λ typed. Ok area

passes : (a b : ObjectType) (area : Sensitive) → a ≡ b → of_type a b area ≡ Ok area
passes a b area same =
    rw ((Decides-eqb (object_type_number a) (object_type_number b)).1 (ap object_type_number same))
    refl

-- If two types have the same number, they are equal.
same_type : (a b : ObjectType) → object_type_number a ≡ object_type_number b → a ≡ b
same_type object.KeyedHash object.KeyedHash e = refl
same_type object.KeyedHash object.SymCipher e = absurd (omega arith)
same_type object.SymCipher object.KeyedHash e = absurd (omega arith)
same_type object.SymCipher object.SymCipher e = refl

refuses : (a b : ObjectType) (area : Sensitive) → b ≢ a → of_type a b area ≡ Err integrity_fault
refuses a b area other =
    rw (ne_eqb (object_type_number a) (object_type_number b)
    (λ same. other (sym (same_type a b same)))) refl

-- Unwrapping a wrapped private area returns the sensitive area if it has the type of the public
-- area, and fails otherwise.
wrapped_is : (parent : Object) (public : Public) (name iv : List ℕ) (area : Sensitive)
    → name ≡ object_name public → length iv ≡ 16 → IsSensitive area
    → unwrapped_sensitive parent public (private_text parent name iv area)
    ≡ of_type area.object_type (object_type public) area
unfolding unwrapped_sensitive private_text
wrapped_is parent public name iv area named whole is =
    let protected : List ℕ = protected_text parent name iv area in
    rw (
      sym named,
      protected_again parent name protected,
      decrypted_again parent name iv area whole is,
    ) refl

-- If the public and the sensitive area have the same type, a wrapped private area can be unwrapped.
pub wrapped_undone : (parent : Object) (public : Public) (name iv text : List ℕ) (area : Sensitive)
    → text ≡ private_text parent name iv area → length iv ≡ 16 → IsSensitive area
    → name ≡ object_name public → object_type public ≡ area.object_type
    → unwrapped_sensitive parent public text ≡ Ok area
wrapped_undone parent public name iv text area spelled whole is named typed =
    ap (unwrapped_sensitive parent public) spelled
    ∙ wrapped_is parent public name iv area named whole is
    ∙ passes area.object_type (object_type public) area (sym typed)

-- If the public and the sensitive area have different types, a wrapped private area cannot be
-- unwrapped.
pub wrapped_refused : (parent : Object) (public : Public) (name iv text : List ℕ) (area : Sensitive)
    → text ≡ private_text parent name iv area → length iv ≡ 16 → IsSensitive area
    → name ≡ object_name public → object_type public ≢ area.object_type
    → unwrapped_sensitive parent public text ≡ Err integrity_fault
wrapped_refused parent public name iv text area spelled whole is named other =
    ap (unwrapped_sensitive parent public) spelled
    ∙ wrapped_is parent public name iv area named whole is
    ∙ refuses area.object_type (object_type public) area other

-- If a private area was wrapped for a public area, it can be unwrapped with this public area.
pub unwrapped_only : (parent : Object) (public : Public) (text : List ℕ) (area : Sensitive)
    → IsWrapped parent public text area → unwrapped_sensitive parent public text ≡ Ok area
unwrapped_only parent public text area is =
    wrapped_undone parent public (object_name public) is.iv text area is.spelled is.whole is.sized
    refl
    (sym is.typed)

-- A private area that can be unwrapped with a public area was wrapped for that public area.
pub unwrapped_found : (parent : Object) (public : Public) (name text protected : List ℕ)
    (area : Sensitive)
    → name ≡ object_name public → AreBytes text → protected_in parent name text ≡ Ok protected
    → IsSensitive area × IsProtected parent name protected area
    → object_type_number area.object_type ≡ object_type_number (object_type public)
    → IsWrapped parent public text area
unfolding private_text
unwrapped_found parent public name text protected area named fits read is number =
    record {
      typed = same_type area.object_type (object_type public) number;
      sized = is.0;
      iv = is.1.0;
      whole = is.1.1;
      spelled = protected_found parent name text protected fits read
          ∙ ap (authenticated_text parent name) is.1.2
          ∙ ap (λ (n : List ℕ). private_text parent n is.1.0 area) named;
    }

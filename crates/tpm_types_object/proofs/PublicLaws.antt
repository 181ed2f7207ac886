-- A read returns a public area exactly when the input starts with its encoding.
use Rattle.std.proofs.Common.{◌≡◌, ℕ, ◌^◌, ◌<◌, ◌≤◌, cond, List, [], ◌++◌, length, Result, Ok, Err, refl, sym, ap, subst, ◌∙◌, append_assoc, arith, inl, inr, length-append}
use Rattle.std.specs.Prelude.{◌==◌}
use Rattle.std.specs.Int.{w16, to_be_bytes}
use Rattle.std.proofs.lemmas.Bool.{eqb-true}
use Rattle.tpm_bytes.specs.Reading.{◌>>=◌, number_at, or_fault}
use Rattle.tpm_bytes.specs.Writing.{sized_text}
use Rattle.tpm_bytes.proofs.Fields.{AreBytes, Takes, bind_ok, ok_is, number_or_again, number_or_takes, wide16}
use Rattle.tpm_mac.specs.declared.algorithm.HashAlg.{HashAlg}
use Rattle.tpm_types_object.specs.declared.public.KeyedHashScheme.{KeyedHashScheme}
use Rattle.tpm_types_object.specs.declared.public.KeyedHashScheme.TheVariants.{Null, Hmac}
use Rattle.tpm_types_object.specs.declared.public.ObjectType.{ObjectType}
use Rattle.tpm_types_object.specs.declared.public.ObjectType.TheVariants as object
use Rattle.tpm_types_object.specs.declared.public.Public.{Public}
use Rattle.tpm_types_object.specs.declared.public.PublicParameters.{PublicParameters}
use Rattle.tpm_types_object.specs.declared.public.PublicParameters.TheVariants as parameters_of
use Rattle.tpm_types_common.specs.declared.rc.Rc.{Rc}
use Rattle.tpm_types_common.specs.declared.rc.ResponseCode.TheVariants as code
use Rattle.tpm_types_common.specs.declared.symmetric.SymmetricDefinition.TheVariants as symmetric
use Rattle.tpm_types_common.specs.Algorithm.{hash_at, hash_number}
use Rattle.tpm_types_common.specs.Buffer.{buffer_at}
use Rattle.tpm_types_common.specs.Filled.{filled_by}
use Rattle.tpm_types_object.specs.ObjectAttributes.{attributes_at, attributes_text}
use Rattle.tpm_types_object.specs.Public.{IsPublic, behind_scheme_at, sym_cipher_at, hmac_at, object_type, object_type_text, parameters_at, parameters_text, public_at, public_text, scheme_at, scheme_text, type_of_parameters}
use Rattle.tpm_types_common.specs.Rc.{plain}
use Rattle.tpm_types_common.specs.Symmetric.{cipher_at, symmetric_text}
use Rattle.tpm_types_common.proofs.FieldLaws.{buffer_spelled}
use Rattle.tpm_types_object.proofs.ObjectFields.{attributes_spelled, object_type_spelled}
use Rattle.tpm_types_common.proofs.FilledLaws.{filled_spelled}
use Rattle.tpm_types_common.proofs.HashLaws.{hash_spelled}
use Rattle.tpm_types_common.proofs.Spelled.{Spelled, all_read, first, for_each, respelled, six_texts, takes, then}
use Rattle.tpm_types_common.proofs.SymmetricLaws.{chosen, cipher_again, cipher_takes}

-- ---- schemes

hmac_takes : (bytes : List ℕ) (x : KeyedHashScheme × List ℕ) → AreBytes bytes → hmac_at bytes ≡ Ok x
    → Takes (to_be_bytes w16 0x0005 ++ bytes) (scheme_text x.0) x.1
unfolding scheme_text
hmac_takes bytes x fits e =
    let a = bind_ok (hash_at bytes) (λ hash. Ok (Hmac hash.0, hash.1)) x e in
    let t = (hash_spelled.taken bytes a.0 fits a.1).0 in
    let made : KeyedHashScheme × List ℕ = (Hmac a.0.0, a.0.1) in
    let whole : to_be_bytes w16 0x0005 ++ bytes ≡ scheme_text (Hmac a.0.0) ++ a.0.1 =
    ap (λ (l : List ℕ). to_be_bytes w16 0x0005 ++ l) t.parts
    ∙ sym (append_assoc (to_be_bytes w16 0x0005) (to_be_bytes w16 (hash_number a.0.0)) a.0.1) in
    subst (λ (y : KeyedHashScheme × List ℕ). Takes (to_be_bytes w16 0x0005 ++ bytes)
    (scheme_text y.0) y.1) (ok_is made x a.2)
    (record { parts = whole; rest_fits = t.rest_fits })

behind_takes : (number : ℕ) (bytes : List ℕ) (x : KeyedHashScheme × List ℕ) → AreBytes bytes
    → behind_scheme_at number bytes ≡ Ok x
    → Takes (to_be_bytes w16 number ++ bytes) (scheme_text x.0) x.1
unfolding scheme_text
behind_takes number bytes x fits e =
    elim (chosen (number == 0x0010) (Ok (Null, bytes))
    (cond (number == 0x0005) (hmac_at bytes) (Err (plain code.Scheme))) x e) [
      | inl null ↦ null_takes (eqb-true _ _ null.0) null.1
      | inr other ↦ elim
          (chosen (number == 0x0005) (hmac_at bytes) (Err (plain code.Scheme)) x other.1) [
            | inl hmac ↦ subst (λ (n : ℕ). Takes (to_be_bytes w16 n ++ bytes) (scheme_text x.0) x.1)
                (sym (eqb-true _ _ hmac.0)) (hmac_takes bytes x fits hmac.1)
            | inr none ↦ absurd cc
          ]
    ]
  where
    null_takes : number ≡ 0x0010
        → (let made : Result (KeyedHashScheme × List ℕ) Rc = Ok (Null, bytes) in made ≡ Ok x)
        → Takes (to_be_bytes w16 number ++ bytes) (scheme_text x.0) x.1
    null_takes is made =
        subst (λ (y : KeyedHashScheme × List ℕ). Takes (to_be_bytes w16 number ++ bytes)
        (scheme_text y.0) y.1) (ok_is (Null, bytes) x made)
        (record { parts = ap (λ (n : ℕ). to_be_bytes w16 n ++ bytes) is; rest_fits = fits })

pub scheme_spelled : Spelled scheme_text (λ scheme. Unit {0}) scheme_at
unfolding scheme_at scheme_text
scheme_spelled = record { taken = taken; again = again }
  where
    taken : (bytes : List ℕ) (x : KeyedHashScheme × List ℕ) → AreBytes bytes
        → scheme_at bytes ≡ Ok x → Takes bytes (scheme_text x.0) x.1 × Unit {0}
    taken bytes x fits e =
        let a = bind_ok (or_fault (number_at w16 bytes) (plain code.Insufficient))
        (λ scheme. behind_scheme_at scheme.0 scheme.1) x e in
        let t =
        (number_or_takes w16 (2 ^ 16) wide16 (plain code.Insufficient) bytes a.0 fits a.1).0 in
        let u = behind_takes a.0.0 a.0.1 x t.rest_fits a.2 in
        (record { parts = t.parts ∙ u.parts; rest_fits = u.rest_fits }, tt)

    again : (scheme : KeyedHashScheme) (rest : List ℕ) → Unit {0}
        → scheme_at (scheme_text scheme ++ rest) ≡ Ok (scheme, rest)
    again Null rest _ =
        rw (number_or_again w16 (2 ^ 16) wide16 (plain code.Insufficient) 0x0010 rest (omega arith))
        refl
    again (Hmac hash) rest _ =
        ap scheme_at (append_assoc (to_be_bytes w16 0x0005) (to_be_bytes w16 (hash_number hash))
        rest)
        ∙ rw (
          number_or_again w16 (2 ^ 16) wide16 (plain code.Insufficient) 0x0005
              (to_be_bytes w16 (hash_number hash) ++ rest) (omega arith),
          hash_spelled.again hash rest tt,
        ) refl

-- ---- the parameters of objects of each type

abbrev AreOf : ObjectType → PublicParameters → Type 0
AreOf type parameters = Unit {0} × (type_of_parameters parameters ≡ type)

cipher_taken : (bytes : List ℕ) (x : PublicParameters × List ℕ) → AreBytes bytes
    → sym_cipher_at bytes ≡ Ok x → Takes bytes (parameters_text x.0) x.1
    × AreOf object.SymCipher x.0
unfolding sym_cipher_at
cipher_taken bytes x fits e =
    let a = bind_ok (cipher_at bytes) (λ cipher. Ok (parameters_of.SymCipher, cipher.1)) x e in
    let made : PublicParameters × List ℕ = (parameters_of.SymCipher, a.0.1) in
    subst (λ (y : PublicParameters × List ℕ). Takes bytes (parameters_text y.0) y.1
    × AreOf object.SymCipher y.0) (ok_is made x a.2) (
      takes bytes (symmetric_text symmetric.Aes128Cfb) a.0.1 fits
          (cipher_takes bytes a.0 fits a.1).0,
      (tt, refl),
    )

keyed_hash_taken : (bytes : List ℕ) (x : PublicParameters × List ℕ) → AreBytes bytes
    → parameters_at object.KeyedHash bytes ≡ Ok x → Takes bytes (parameters_text x.0) x.1
    × AreOf object.KeyedHash x.0
keyed_hash_taken bytes x fits e =
    let a = bind_ok (scheme_at bytes) (λ scheme. Ok (parameters_of.KeyedHash scheme.0, scheme.1)) x
    e in
    let t = (scheme_spelled.taken bytes a.0 fits a.1).0 in
    let made : PublicParameters × List ℕ = (parameters_of.KeyedHash a.0.0, a.0.1) in
    subst (λ (y : PublicParameters × List ℕ). Takes bytes (parameters_text y.0) y.1
    × AreOf object.KeyedHash y.0) (ok_is made x a.2) (t, (tt, refl))

parameters_taken : (type : ObjectType) (bytes : List ℕ) (x : PublicParameters × List ℕ)
    → AreBytes bytes → parameters_at type bytes ≡ Ok x → Takes bytes (parameters_text x.0) x.1
    × AreOf type x.0
parameters_taken object.KeyedHash = keyed_hash_taken
parameters_taken object.SymCipher = cipher_taken

of_their_type : (parameters : PublicParameters) (rest : List ℕ)
    → parameters_at (type_of_parameters parameters) (parameters_text parameters ++ rest)
    ≡ Ok (parameters, rest)
unfolding sym_cipher_at
of_their_type (parameters_of.KeyedHash scheme) rest = rw (scheme_spelled.again scheme rest tt) refl
of_their_type parameters_of.SymCipher rest = rw (cipher_again rest) refl

parameters_spelled : (type : ObjectType) → Spelled parameters_text (AreOf type) (parameters_at type)
parameters_spelled type = record {
  taken = parameters_taken type;
  again =
      λ parameters rest are.
      ap (λ (t : ObjectType). parameters_at t (parameters_text parameters ++ rest)) (sym are.1)
      ∙ of_their_type parameters rest;
}

-- ---- public areas

-- the fields of a public area after its type, in order
abbrev Fields : Type 0
Fields = (((HashAlg × ℕ) × List ℕ) × PublicParameters) × List ℕ

abbrev fields_of : Public → Fields
fields_of p = ((((p.name_alg, p.attributes), p.auth_policy), p.parameters), p.unique)

abbrev public_of : Fields → Public
public_of f = record {
  name_alg = f.0.0.0.0;
  attributes = f.0.0.0.1;
  auth_policy =
      f.0.0.1;
  parameters = f.0.1;
  unique = f.1;
}

abbrev behind_type : ObjectType → List ℕ → Result (Public × List ℕ) Rc
behind_type type text =
    hash_at text >>= λ name_alg. attributes_at name_alg.1
    >>= λ attributes. buffer_at 32 attributes.1
    >>= λ auth_policy. parameters_at type auth_policy.1
    >>= λ parameters. buffer_at 32 parameters.1
    >>= λ unique.
    Ok (
      public_of ((((name_alg.0, attributes.0), auth_policy.0), parameters.0), unique.0),
      unique.1,
    )

abbrev behind_type_text : Public → List ℕ
behind_type_text p = to_be_bytes w16 (hash_number p.name_alg)
    ++ (attributes_text p.attributes
    ++ (sized_text p.auth_policy
    ++ (parameters_text p.parameters ++ (sized_text p.unique ++ []))))

behind_type_spelled : (type : ObjectType)
    → Spelled behind_type_text (λ p. IsPublic p × (object_type p ≡ type)) (behind_type type)
behind_type_spelled type =
    let b32 = buffer_spelled 32 (omega arith) in
    let fields =
    first hash_spelled
    (then attributes_spelled
    (then b32
    (then (parameters_spelled type)
    (then b32 (all_read fields_of public_of (λ _. refl) (λ _. refl)))))) in
    respelled fields (λ _. refl)
    (λ p is. (
      record { attributes = is.1.0; auth_policy = is.1.1.0; unique = is.1.1.1.1.0 },
      is.1.1.1.0.1,
    ))
    (λ p is. (tt, (is.0.attributes, (is.0.auth_policy, ((tt, is.1), (is.0.unique, tt))))))

pub public_spelled : Spelled public_text IsPublic public_at
unfolding public_at public_text
public_spelled =
    respelled
    (first object_type_spelled
    (for_each object_type behind_type_text IsPublic behind_type behind_type_spelled))
    (λ p. six_texts (object_type_text (object_type p)) (to_be_bytes w16 (hash_number p.name_alg))
    (attributes_text p.attributes) (sized_text p.auth_policy) (parameters_text p.parameters)
    (sized_text p.unique))
    (λ p is. is.1) (λ p is. (tt, is))

-- ---- the length of an encoded public area

length-symmetric_text : length (symmetric_text symmetric.Aes128Cfb) ≡ 6
unfolding symmetric_text
length-symmetric_text = refl

pub parameters_small : (parameters : PublicParameters) → length (parameters_text parameters) ≤ 6
unfolding scheme_text
parameters_small (parameters_of.KeyedHash Null) = omega arith
parameters_small (parameters_of.KeyedHash (Hmac hash)) = omega arith
parameters_small parameters_of.SymCipher = omega (arith, length-symmetric_text)

pub public_small : (p : Public) → IsPublic p → length (public_text p) < 2 ^ 16
unfolding public_text
public_small p is =
    let front = object_type_text (object_type p) ++ to_be_bytes w16 (hash_number p.name_alg)
    ++ attributes_text p.attributes in
    let policy = front ++ sized_text p.auth_policy in
    let parameters = policy ++ parameters_text p.parameters in
    omega (
      arith,
      is.auth_policy,
      is.unique,
      parameters_small p.parameters,
      length-append front (sized_text p.auth_policy),
      length-append policy (parameters_text p.parameters),
      length-append parameters (sized_text p.unique),
    )

-- ---- public areas in a sized buffer

abbrev pub sized_public_text : Public → List ℕ
sized_public_text p = sized_text (public_text p)

pub sized_public_spelled : Spelled sized_public_text IsPublic (filled_by public_at)
sized_public_spelled = filled_spelled public_spelled public_small

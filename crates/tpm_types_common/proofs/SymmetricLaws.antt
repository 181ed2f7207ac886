-- A read returns a symmetric definition exactly when the input starts with its encoding.
use Rattle.std.proofs.Common.{◌≡◌, ℕ, ◌^◌, Bool, true, false, cond, List, ◌++◌, Result, Ok, Err, refl, sym, ap, subst, ◌∙◌, append_assoc, arith, inl, inr}
use Rattle.std.specs.Prelude.{◌==◌, ◌⊎◌, not}
use Rattle.std.specs.Int.{w16, to_be_bytes}
use Rattle.std.proofs.lemmas.Bool.{eqb-true}
use Rattle.tpm_bytes.specs.Reading.{◌>>=◌, number_at, or_fault, refused_if}
use Rattle.tpm_bytes.proofs.Fields.{AreBytes, Takes, Takes-then, bind_ok, ok_is, passed, number_or_again, number_or_takes, wide16}
use Rattle.tpm_types_common.specs.declared.rc.Rc.{Rc}
use Rattle.tpm_types_common.specs.declared.rc.ResponseCode.TheVariants as code
use Rattle.tpm_types_common.specs.declared.symmetric.SymmetricDefinition.{SymmetricDefinition}
use Rattle.tpm_types_common.specs.declared.symmetric.SymmetricDefinition.TheVariants.{Null, Aes128Cfb, Xor}
use Rattle.tpm_types_common.specs.Symmetric.{aes_at, behind_at, cipher_at, symmetric_at, symmetric_text, xor_at}
use Rattle.tpm_types_common.specs.Rc.{plain}
use Rattle.tpm_mac.specs.declared.algorithm.HashAlg.{HashAlg}
use Rattle.tpm_types_common.specs.Algorithm.{hash_at, hash_number}
use Rattle.tpm_types_common.proofs.HashLaws.{hash_again, hash_takes}
use Rattle.tpm_types_common.proofs.SelectionLaws.{is_equal}

-- A conditional returns its first result if the test is true, and its second result otherwise.
pub chosen : {A E : Type 0} (b : Bool) (x y : Result A E) (z : A) → cond b x y ≡ Ok z
    → ((b ≡ true) × (x ≡ Ok z)) ⊎ ((b ≡ false) × (y ≡ Ok z))
chosen true x y z e = inl (refl, e)
chosen false x y z e = inr (refl, e)

abbrev behind_aes : List ℕ
behind_aes = to_be_bytes w16 0x0080 ++ to_be_bytes w16 0x0043

aes_takes : (bytes : List ℕ) (x : SymmetricDefinition × List ℕ) → AreBytes bytes
    → aes_at bytes ≡ Ok x → Takes bytes behind_aes x.1 × (x.0 ≡ Aes128Cfb)
unfolding aes_at
aes_takes bytes x fits e =
    let f = plain code.Insufficient in
    let a = bind_ok (or_fault (number_at w16 bytes) f)
    (λ bits. refused_if (not (bits.0 == 0x0080)) (plain code.Value)
    >>= λ served. or_fault (number_at w16 bits.1) f
    >>= λ mode. refused_if (not (mode.0 == 0x0043)) (plain code.Mode)
    >>= λ feedback. Ok (Aes128Cfb, mode.1)) x e in
    let b = bind_ok (refused_if (not (a.0.0 == 0x0080)) (plain code.Value))
    (λ served. or_fault (number_at w16 a.0.1) f
    >>= λ mode. refused_if (not (mode.0 == 0x0043)) (plain code.Mode)
    >>= λ feedback. Ok (Aes128Cfb, mode.1)) x a.2 in
    let c = bind_ok (or_fault (number_at w16 a.0.1) f)
    (λ mode. refused_if (not (mode.0 == 0x0043)) (plain code.Mode)
    >>= λ feedback. Ok (Aes128Cfb, mode.1)) x b.2 in
    let d = bind_ok (refused_if (not (c.0.0 == 0x0043)) (plain code.Mode))
    (λ feedback. Ok (Aes128Cfb, c.0.1)) x c.2 in
    let bits : a.0.0 ≡ 0x0080 = is_equal a.0.0 0x0080 (passed _ (plain code.Value) b.0 b.1) in
    let mode : c.0.0 ≡ 0x0043 = is_equal c.0.0 0x0043 (passed _ (plain code.Mode) d.0 d.1) in
    let t0 = number_or_takes w16 (2 ^ 16) wide16 f bytes a.0 fits a.1 in
    let t1 = number_or_takes w16 (2 ^ 16) wide16 f a.0.1 c.0 t0.0.rest_fits c.1 in
    let both = Takes-then bytes (to_be_bytes w16 a.0.0) a.0.1 (to_be_bytes w16 c.0.0) c.0.1 t0.0
    t1.0 in
    let sized : Takes bytes (to_be_bytes w16 0x0080 ++ to_be_bytes w16 c.0.0) c.0.1 =
    subst (λ (n : ℕ). Takes bytes (to_be_bytes w16 n ++ to_be_bytes w16 c.0.0) c.0.1) bits
    both in
    let spelled : Takes bytes behind_aes c.0.1 =
    subst (λ (n : ℕ). Takes bytes (to_be_bytes w16 0x0080 ++ to_be_bytes w16 n) c.0.1) mode
    sized in
    let made : SymmetricDefinition × List ℕ = (Aes128Cfb, c.0.1) in
    subst (λ (y : SymmetricDefinition × List ℕ). Takes bytes behind_aes y.1 × (y.0 ≡ Aes128Cfb))
    (ok_is made x d.2) (spelled, refl)

aes_again : (rest : List ℕ) → aes_at (behind_aes ++ rest) ≡ Ok (Aes128Cfb, rest)
unfolding aes_at
aes_again rest =
    let f = plain code.Insufficient in
    ap aes_at (append_assoc (to_be_bytes w16 0x0080) (to_be_bytes w16 0x0043) rest)
    ∙ rw (
      number_or_again w16 (2 ^ 16) wide16 f 0x0080 (to_be_bytes w16 0x0043 ++ rest)
          (omega arith),
      number_or_again w16 (2 ^ 16) wide16 f 0x0043 rest (omega arith),
    ) refl

-- If the field after the algorithm XOR can be read, it encodes a hash algorithm, and the symmetric
-- definition is XOR with that algorithm.
xor_takes : (bytes : List ℕ) (x : SymmetricDefinition × List ℕ) → AreBytes bytes
    → xor_at bytes ≡ Ok x → (hash : HashAlg) × (bytes ≡ to_be_bytes w16 (hash_number hash) ++ x.1)
    × (x.0 ≡ Xor hash)
unfolding xor_at
xor_takes bytes x fits e =
    let a = bind_ok (hash_at bytes) (λ hash. Ok (Xor hash.0, hash.1)) x e in
    let t = hash_takes bytes a.0 fits a.1 in
    let made : SymmetricDefinition × List ℕ = (Xor a.0.0, a.0.1) in
    let is : made ≡ x = ok_is made x a.2 in (
      a.0.0,
      t.parts
          ∙ ap (λ (y : SymmetricDefinition × List ℕ). to_be_bytes w16 (hash_number a.0.0) ++ y.1)
          is,
      ap (λ (y : SymmetricDefinition × List ℕ). y.0) (sym is),
    )

xor_again : (hash : HashAlg) (rest : List ℕ) → xor_at (to_be_bytes w16 (hash_number hash) ++ rest)
    ≡ Ok (Xor hash, rest)
unfolding xor_at
xor_again hash rest = rw (hash_again hash rest) refl

pub symmetric_takes : (bytes : List ℕ) (x : SymmetricDefinition × List ℕ) → AreBytes bytes
    → symmetric_at bytes ≡ Ok x → bytes ≡ symmetric_text x.0 ++ x.1
unfolding symmetric_at symmetric_text
symmetric_takes bytes x fits e =
    let f = plain code.Insufficient in
    let a = bind_ok (or_fault (number_at w16 bytes) f)
    (λ algorithm. behind_at algorithm.0 algorithm.1) x e in
    let t = number_or_takes w16 (2 ^ 16) wide16 f bytes a.0 fits a.1 in
    elim (chosen (a.0.0 == 0x0010) (Ok (Null, a.0.1))
    (cond (a.0.0 == 0x0006) (aes_at a.0.1)
    (cond (a.0.0 == 0x000a) (xor_at a.0.1) (Err (plain code.Symmetric)))) x a.2) [
      | inl null ↦ null_takes a.0 t.0 (eqb-true _ _ null.0) null.1
      | inr other ↦ elim
          (chosen (a.0.0 == 0x0006) (aes_at a.0.1)
          (cond (a.0.0 == 0x000a) (xor_at a.0.1) (Err (plain code.Symmetric))) x other.1) [
            | inl aes ↦ aes_all a.0 t.0 (eqb-true _ _ aes.0) aes.1
            | inr further ↦ elim
                (chosen (a.0.0 == 0x000a) (xor_at a.0.1) (Err (plain code.Symmetric)) x further.1) [
                  | inl xor ↦ xor_all a.0 t.0 (eqb-true _ _ xor.0) xor.1
                  | inr none ↦ absurd cc
                ]
          ]
    ]
  where
    null_takes : (number : ℕ × List ℕ) → Takes bytes (to_be_bytes w16 number.0) number.1
        → number.0 ≡ 0x0010
        → (let made : Result (SymmetricDefinition × List ℕ) Rc = Ok (Null, number.1) in made ≡ Ok x)
        → bytes ≡ symmetric_text x.0 ++ x.1
    null_takes number t is made =
        subst (λ (y : SymmetricDefinition × List ℕ). bytes ≡ symmetric_text y.0 ++ y.1)
        (ok_is (Null, number.1) x made) (t.parts ∙ ap (λ (n : ℕ). to_be_bytes w16 n ++ number.1) is)

    aes_all : (number : ℕ × List ℕ) → Takes bytes (to_be_bytes w16 number.0) number.1
        → number.0 ≡ 0x0006 → aes_at number.1 ≡ Ok x → bytes ≡ symmetric_text x.0 ++ x.1
    aes_all number t is made =
        let u = aes_takes number.1 x t.rest_fits made in
        t.parts ∙ ap (λ (n : ℕ). to_be_bytes w16 n ++ number.1) is
        ∙ ap (λ (l : List ℕ). to_be_bytes w16 0x0006 ++ l) u.0.parts
        ∙ ap (λ (d : SymmetricDefinition). symmetric_text d ++ x.1) (sym u.1)

    xor_all : (number : ℕ × List ℕ) → Takes bytes (to_be_bytes w16 number.0) number.1
        → number.0 ≡ 0x000a → xor_at number.1 ≡ Ok x → bytes ≡ symmetric_text x.0 ++ x.1
    xor_all number t is made =
        let (hash, spelled, definition) = xor_takes number.1 x t.rest_fits made in
        t.parts ∙ ap (λ (n : ℕ). to_be_bytes w16 n ++ number.1) is
        ∙ ap (λ (l : List ℕ). to_be_bytes w16 0x000a ++ l) spelled
        ∙ ap (λ (d : SymmetricDefinition). symmetric_text d ++ x.1) (sym definition)

pub symmetric_again : (definition : SymmetricDefinition) (rest : List ℕ)
    → symmetric_at (symmetric_text definition ++ rest) ≡ Ok (definition, rest)
unfolding symmetric_at symmetric_text
symmetric_again Null rest =
    rw (number_or_again w16 (2 ^ 16) wide16 (plain code.Insufficient) 0x0010 rest (omega arith))
    refl
symmetric_again Aes128Cfb rest =
    rw (number_or_again w16 (2 ^ 16) wide16 (plain code.Insufficient) 0x0006 (behind_aes ++ rest)
    (omega arith)) (aes_again rest)
symmetric_again (Xor hash) rest =
    rw (number_or_again w16 (2 ^ 16) wide16 (plain code.Insufficient) 0x000a
    (to_be_bytes w16 (hash_number hash) ++ rest) (omega arith)) (xor_again hash rest)

-- ---- a cipher

pub cipher_takes : (bytes : List ℕ) (x : SymmetricDefinition × List ℕ) → AreBytes bytes
    → cipher_at bytes ≡ Ok x → (bytes ≡ symmetric_text Aes128Cfb ++ x.1) × (x.0 ≡ Aes128Cfb)
unfolding cipher_at symmetric_text
cipher_takes bytes x fits e =
    let f = plain code.Insufficient in
    let a = bind_ok (or_fault (number_at w16 bytes) f)
    (λ algorithm. refused_if (not (algorithm.0 == 0x0006)) (plain code.Symmetric)
    >>= λ served. aes_at algorithm.1) x e in
    let b = bind_ok (refused_if (not (a.0.0 == 0x0006)) (plain code.Symmetric))
    (λ served. aes_at a.0.1) x a.2 in
    let t = number_or_takes w16 (2 ^ 16) wide16 f bytes a.0 fits a.1 in
    let is : a.0.0 ≡ 0x0006 = is_equal a.0.0 0x0006 (passed _ (plain code.Symmetric) b.0 b.1) in
    let u = aes_takes a.0.1 x t.0.rest_fits b.2 in (
      t.0.parts ∙ ap (λ (n : ℕ). to_be_bytes w16 n ++ a.0.1) is
          ∙ ap (λ (l : List ℕ). to_be_bytes w16 0x0006 ++ l) u.0.parts,
      u.1,
    )

pub cipher_again : (rest : List ℕ) → cipher_at (symmetric_text Aes128Cfb ++ rest)
    ≡ Ok (Aes128Cfb, rest)
unfolding cipher_at symmetric_text
cipher_again rest =
    rw (number_or_again w16 (2 ^ 16) wide16 (plain code.Insufficient) 0x0006 (behind_aes ++ rest)
    (omega arith)) (aes_again rest)

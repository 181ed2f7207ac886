-- A read returns the public area of an NV index exactly when the input starts with its encoding.
use Rattle.std.proofs.Common.{◌≡◌, ℕ, ◌^◌, ◌<◌, Bool, true, false, List, [], ◌++◌, length, Ok, refl, subst, append_assoc, append-nil, arith, length-append}
use Rattle.std.specs.Prelude.{◌==◌, ◌≤◌, not, bit_and}
use Rattle.std.proofs.lemmas.Bool.{and_parts, eqb-true}
use Rattle.std.specs.Int.{w16, w32, to_be_bytes}
use Rattle.tpm_bytes.specs.Reading.{◌>>=◌, number_at, or_fault, refused_if}
use Rattle.tpm_bytes.specs.Writing.{sized_text}
use Rattle.tpm_bytes.proofs.Fields.{Takes, bind_ok, ok_is, passed, number_or_again, number_or_takes, wide16, wide32}
use Rattle.tpm_mac.specs.declared.algorithm.HashAlg.{HashAlg}
use Rattle.tpm_types_common.specs.Handle.{is_nv_index}
use Rattle.tpm_types_common.specs.declared.handle.Handle.{Handle}
use Rattle.tpm_types_common.specs.declared.rc.ResponseCode.TheVariants as code
use Rattle.tpm_types_common.specs.Algorithm.{hash_number}
use Rattle.tpm_types_common.specs.Handle.{numbered_handle}
use Rattle.tpm_types_common.specs.Rc.{plain}
use Rattle.tpm_types_common.specs.AttributeBits.{attribute_bits_at}
use Rattle.tpm_types_common.proofs.AttributeBitsLaws.{attribute_bits_spelled}
use Rattle.tpm_types_common.proofs.FieldLaws.{buffer_spelled, number_spelled}
use Rattle.tpm_types_common.proofs.HashLaws.{hash_spelled}
use Rattle.tpm_types_common.proofs.Spelled.{Spelled, all_read, first, respelled, then}
use Rattle.tpm_types_nv.specs.declared.nv_attributes.NvAttributes.{NvAttributes}
use Rattle.tpm_types_nv.specs.declared.nv_public.NvPublic.{NvPublic}
use Rattle.tpm_types_nv.specs.NvAttributes.{IsNvAttributes, nv_attributes_at, nv_attributes_text, reserved_bits}
use Rattle.tpm_types_nv.specs.NvPublic.{IsNvIndex, IsNvPublic, is_nv_public, nv_index_at, nv_index_text, nv_public_at, nv_public_text}
use Rattle.tpm_types_common.specs.Filled.{filled_by}
use Rattle.tpm_types_common.proofs.FilledLaws.{filled_spelled}

-- ---- attributes

abbrev attributes_of : ℕ × List ℕ → NvAttributes × List ℕ
attributes_of bits = (record { bits = bits.0 }, bits.1)

nv_attributes_spelled : Spelled nv_attributes_text IsNvAttributes nv_attributes_at
unfolding nv_attributes_at
nv_attributes_spelled = record {
  taken = λ bytes x fits e.
      let a = bind_ok (attribute_bits_at reserved_bits bytes) (λ bits. Ok (attributes_of bits)) x
      e in
      subst (λ (y : NvAttributes × List ℕ). Takes bytes (nv_attributes_text y.0) y.1
      × IsNvAttributes y.0) (ok_is (attributes_of a.0) x a.2)
      ((attribute_bits_spelled reserved_bits).taken bytes a.0 fits a.1);
  again =
      λ attributes rest is.
      rw ((attribute_bits_spelled reserved_bits).again attributes.bits rest is) refl;
}

-- ---- the handle of an index

abbrev index_of : ℕ × List ℕ → Handle × List ℕ
index_of number = (numbered_handle number.0, number.1)

not_false : (b : Bool) → not b ≡ false → b ≡ true
not_false true e = refl
not_false false e = absurd cc

nv_index_spelled : Spelled nv_index_text IsNvIndex nv_index_at
unfolding nv_index_at
nv_index_spelled = record {
  taken = λ bytes x fits e.
      let a = bind_ok (or_fault (number_at w32 bytes) (plain code.Insufficient))
      (λ number. refused_if (not (is_nv_index (numbered_handle number.0))) (plain code.Value)
      >>= λ named. Ok (index_of number)) x e in
      let b = bind_ok (refused_if (not (is_nv_index (numbered_handle a.0.0))) (plain code.Value))
      (λ named. Ok (index_of a.0)) x a.2 in
      let t = number_or_takes w32 (2 ^ 32) wide32 (plain code.Insufficient) bytes a.0 fits a.1 in
      let named = not_false (is_nv_index (numbered_handle a.0.0))
      (passed (not (is_nv_index (numbered_handle a.0.0))) (plain code.Value) b.0 b.1) in
      subst (λ (y : Handle × List ℕ). Takes bytes (nv_index_text y.0) y.1 × IsNvIndex y.0)
      (ok_is (index_of a.0) x b.2) (t.0, record { fits = t.1; named = named });
  again =
      λ handle rest is.
      rw (
        number_or_again w32 (2 ^ 32) wide32 (plain code.Insufficient) handle.number rest is.fits,
        is.named,
      ) refl;
}

-- ---- public areas

-- the fields of a public area, in order
abbrev Fields : Type 0
Fields = (((Handle × HashAlg) × NvAttributes) × List ℕ) × ℕ

abbrev fields_of : NvPublic → Fields
fields_of p = ((((p.nv_index, p.name_alg), p.attributes), p.auth_policy), p.data_size)

abbrev public_of : Fields → NvPublic
public_of f = record {
  nv_index = f.0.0.0.0;
  name_alg = f.0.0.0.1;
  attributes =
      f.0.0.1;
  auth_policy = f.0.1;
  data_size = f.1;
}

five_texts : (a b c d e : List ℕ) → a ++ b ++ c ++ d ++ e ≡ a ++ (b ++ (c ++ (d ++ (e ++ []))))
five_texts a b c d e = simp (append_assoc, append-nil) refl

pub nv_public_spelled : Spelled nv_public_text IsNvPublic nv_public_at
unfolding nv_public_at nv_public_text
nv_public_spelled =
    let b32 = buffer_spelled 32 (omega arith) in
    let size = number_spelled w16 (2 ^ 16) wide16 (plain code.Insufficient) in
    let fields =
    first nv_index_spelled
    (then hash_spelled
    (then nv_attributes_spelled
    (then b32 (then size (all_read fields_of public_of (λ _. refl) (λ _. refl)))))) in
    respelled fields
    (λ p. five_texts (nv_index_text p.nv_index) (to_be_bytes w16 (hash_number p.name_alg))
    (nv_attributes_text p.attributes) (sized_text p.auth_policy)
    (to_be_bytes w16 p.data_size))
    (λ p is. record {
      nv_index = is.0;
      attributes = is.1.1.0;
      auth_policy = is.1.1.1.0;
      data_size =
          is.1.1.1.1.0;
    })
    (λ p is. (is.nv_index, (tt, (is.attributes, (is.auth_policy, (is.data_size, tt))))))

-- ---- the length of an encoded public area

pub nv_public_small : (p : NvPublic) → IsNvPublic p → length (nv_public_text p) < 2 ^ 16
unfolding nv_public_text
nv_public_small p is =
    let front = nv_index_text p.nv_index ++ to_be_bytes w16 (hash_number p.name_alg)
    ++ nv_attributes_text p.attributes in
    let policy = front ++ sized_text p.auth_policy in
    omega (
      arith,
      is.auth_policy,
      length-append front (sized_text p.auth_policy),
      length-append policy (to_be_bytes w16 p.data_size),
    )

-- ---- public areas in a sized buffer

pub sized_nv_public_spelled : Spelled (λ p. sized_text (nv_public_text p)) IsNvPublic
    (filled_by nv_public_at)
sized_nv_public_spelled = filled_spelled nv_public_spelled nv_public_small

-- ---- whether a public area can be encoded

-- a public area whose handle and attributes pass the test can be encoded
pub valid_public : (p : NvPublic) → p.nv_index.number < 2 ^ 32 → p.attributes.bits < 2 ^ 32
    → length p.auth_policy ≤ 32 → p.data_size < 2 ^ 16 → is_nv_public p ≡ true → IsNvPublic p
valid_public p handle bits policy size is =
    let reserved = bit_and p.attributes.bits reserved_bits == 0 in
    let parts = and_parts (is_nv_index p.nv_index) reserved is in
    record {
      nv_index = record { fits = handle; named = parts.0 };
      attributes = record {
        fits = bits;
        named = eqb-true (bit_and p.attributes.bits reserved_bits) 0 parts.1;
      };
      auth_policy = policy;
      data_size = size;
    }

-- a public area that can be encoded passes the test
pub public_valid : (p : NvPublic) → IsNvPublic p → is_nv_public p ≡ true
public_valid p is = rw (is.nv_index.named, is.attributes.named) refl

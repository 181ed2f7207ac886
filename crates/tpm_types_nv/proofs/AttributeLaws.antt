-- Setting or clearing an attribute of an index does not change the index's type. The reason is that
-- a change outside a mask changes no bit inside the mask.
use Rattle.std.proofs.Common.{◌≡◌, ◌≢◌, ℕ, ◌-◌, ◌*◌, ◌/◌, ◌%◌, ◌^◌, ◌<◌, refl, ap, ◌∙◌, arith, inl, inr}
use Rattle.std.specs.Prelude.{bit_and, bit_or}
use Rattle.std.specs.Int.{w32, bit_at, bit_not}
use Rattle.std.proofs.lemmas.Bool.{cases_eq, cases_lt}
use Rattle.std.proofs.lemmas.Nat.{and_le_l, or_of_32}
use Rattle.std.proofs.lemmas.Nat.Bits.{and_high, bit_at-lt, bit_at-pow_other, bit_at-pow_same, bit_at_above, bit_at_and, bit_at_not, bit_at_or, same_from_bits}
use Rattle.tpm_types_nv.specs.declared.nv_attributes.NvAttribute.{NvAttribute}
use Rattle.tpm_types_nv.specs.declared.nv_attributes.NvAttribute.TheVariants as attribute
use Rattle.tpm_types_nv.specs.AreNvAttributes.{AreNvAttributes}
use Rattle.tpm_types_nv.specs.NvAttributes.{attribute_bit, reserved_bits}
use Rattle.tpm_types_nv.specs.NvType.{nv_type_named}

-- ---- one bit

pub set_same : (n k : ℕ) → bit_at (bit_or n (2 ^ k)) k ≡ 1
set_same n k = omega (arith, bit_at_or n (2 ^ k) k, bit_at-pow_same k, bit_at-lt n k)

pub set_other : (n k i : ℕ) → i ≢ k → bit_at (bit_or n (2 ^ k)) i ≡ bit_at n i
set_other n k i apart = omega (arith, bit_at_or n (2 ^ k) i, bit_at-pow_other k i apart)

-- The 32-bit complement of 2^k contains every bit except bit k.
not_at : (k i : ℕ) → 2 ^ k < 2 ^ 32 → i < 32 → bit_at (bit_not w32 (2 ^ k)) i ≡ 1 - bit_at (2 ^ k) i
not_at k i small within = bit_at_not w32 (2 ^ k) i small within

pub cleared_same : (n k : ℕ) → 2 ^ k < 2 ^ 32 → k < 32
    → bit_at (bit_and n (bit_not w32 (2 ^ k))) k ≡ 0
cleared_same n k small within =
    omega (arith, bit_at_and n (bit_not w32 (2 ^ k)) k, not_at k k small within, bit_at-pow_same k)

pub cleared_other : (n k i : ℕ) → 2 ^ k < 2 ^ 32 → i < 32 → i ≢ k
    → bit_at (bit_and n (bit_not w32 (2 ^ k))) i ≡ bit_at n i
cleared_other n k i small within apart =
    omega (
      arith,
      bit_at_and n (bit_not w32 (2 ^ k)) i,
      not_at k i small within,
      bit_at-pow_other k i apart,
      bit_at-lt n i,
    )

-- ---- a mask that does not contain the bit

pub set_masked : (n k mask : ℕ) → bit_at mask k ≡ 0
    → bit_and (bit_or n (2 ^ k)) mask ≡ bit_and n mask
set_masked n k mask free = same_from_bits _ _ at
  where
    at : (i : ℕ) → bit_at (bit_and (bit_or n (2 ^ k)) mask) i ≡ bit_at (bit_and n mask) i
    at i =
        elim (cases_eq i k) [
          | inl same ↦
              let m : bit_at mask i ≡ 0 = ap (bit_at mask) same ∙ free in
              omega (arith, bit_at_and (bit_or n (2 ^ k)) mask i, bit_at_and n mask i, m)
          | inr apart ↦
              omega (
                arith,
                bit_at_and (bit_or n (2 ^ k)) mask i,
                bit_at_and n mask i,
                set_other n k i apart,
              )
        ]

pub cleared_masked : (n k mask : ℕ) → 2 ^ k < 2 ^ 32 → mask < 2 ^ 32 → bit_at mask k ≡ 0
    → bit_and (bit_and n (bit_not w32 (2 ^ k))) mask ≡ bit_and n mask
cleared_masked n k mask small narrow free = same_from_bits _ _ at
  where
    at : (i : ℕ) → bit_at (bit_and (bit_and n (bit_not w32 (2 ^ k))) mask) i
        ≡ bit_at (bit_and n mask) i
    at i =
        elim (cases_lt i 32) [
          | inr above ↦
              let m = bit_at_above mask 32 i narrow above in
              omega (
                arith,
                bit_at_and (bit_and n (bit_not w32 (2 ^ k))) mask i,
                bit_at_and n mask i,
                m,
              )
          | inl within ↦
              elim (cases_eq i k) [
                | inl same ↦
                    let m : bit_at mask i ≡ 0 = ap (bit_at mask) same ∙ free in
                    omega (
                      arith,
                      bit_at_and (bit_and n (bit_not w32 (2 ^ k))) mask i,
                      bit_at_and n mask i,
                      m,
                    )
                | inr apart ↦
                    omega (
                      arith,
                      bit_at_and (bit_and n (bit_not w32 (2 ^ k))) mask i,
                      bit_at_and n mask i,
                      cleared_other n k i small within apart,
                    )
              ]
        ]

-- ---- the bits of attributes

pub bit_small : (one : NvAttribute) → attribute_bit one < 32
bit_small attribute.PpWrite = omega arith
bit_small _ = omega arith

pub power_small : (one : NvAttribute) → 2 ^ attribute_bit one < 2 ^ 32
power_small attribute.PpWrite = omega arith
power_small _ = omega arith

-- the bit of an attribute is neither a reserved bit nor a bit of the type
not_reserved : (one : NvAttribute) → bit_at reserved_bits (attribute_bit one) ≡ 0
not_reserved attribute.PpWrite = refl
not_reserved _ = refl

not_typed : (one : NvAttribute) → bit_at (2 ^ 8 - 2 ^ 4) (attribute_bit one) ≡ 0
not_typed attribute.PpWrite = refl
not_typed _ = refl

-- Two numbers with equal type bits encode the same type.
type_bits : (a b : ℕ) → bit_and a (2 ^ 8 - 2 ^ 4) ≡ bit_and b (2 ^ 8 - 2 ^ 4)
    → a / 2 ^ 4 % 2 ^ 4 ≡ b / 2 ^ 4 % 2 ^ 4
type_bits a b same =
    let first : bit_and a (2 ^ 8 - 2 ^ 4) ≡ a / 2 ^ 4 % 2 ^ 4 * 2 ^ 4 = and_high a 4 4 in
    let second : bit_and b (2 ^ 8 - 2 ^ 4) ≡ b / 2 ^ 4 % 2 ^ 4 * 2 ^ 4 = and_high b 4 4 in
    omega (arith, first, second, same)

pub are_attributes : AreNvAttributes
are_attributes = record {
  set_there = λ a one. rw (set_same a.bits (attribute_bit one)) refl;
  set_others =
      λ a one other apart. rw (set_other a.bits (attribute_bit one) (attribute_bit other) apart)
      refl;
  cleared_gone =
      λ a one. rw (cleared_same a.bits (attribute_bit one) (power_small one) (bit_small one)) refl;
  cleared_others =
      λ a one other apart.
      rw (cleared_other a.bits (attribute_bit one) (attribute_bit other) (power_small one)
      (bit_small other) apart) refl;
  set_type = λ a one. ap nv_type_named
      (type_bits _ a.bits (set_masked a.bits (attribute_bit one) (2 ^ 8 - 2 ^ 4) (not_typed one)));
  cleared_type = λ a one. ap nv_type_named
      (type_bits _ a.bits
      (cleared_masked a.bits (attribute_bit one) (2 ^ 8 - 2 ^ 4) (power_small one) (omega arith)
      (not_typed one)));
  set_named = λ a one is. record {
    fits = or_of_32 a.bits (2 ^ attribute_bit one) is.fits (power_small one);
    named = set_masked a.bits (attribute_bit one) reserved_bits (not_reserved one) ∙ is.named;
  };
  cleared_named = λ a one is. record {
    fits = omega (arith, and_le_l a.bits (bit_not w32 (2 ^ attribute_bit one)), is.fits);
    named = cleared_masked a.bits (attribute_bit one) reserved_bits (power_small one) (omega arith)
        (not_reserved one) ∙ is.named;
  };
}

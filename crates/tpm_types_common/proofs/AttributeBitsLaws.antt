-- A read returns the attributes in a 32-bit field exactly when the input starts with their
-- encoding.
use Rattle.std.proofs.Common.{ℕ, ◌^◌, List, Ok, refl, subst}
use Rattle.std.specs.Prelude.{◌==◌, not, bit_and}
use Rattle.std.specs.Int.{w32, to_be_bytes}
use Rattle.tpm_bytes.specs.Reading.{◌>>=◌, number_at, or_fault, refused_if}
use Rattle.tpm_bytes.proofs.Fields.{Takes, bind_ok, ok_is, passed, number_or_again, number_or_takes, wide32}
use Rattle.tpm_types_common.specs.AttributeBits.{AreAttributeBits, attribute_bits_at}
use Rattle.tpm_types_common.specs.declared.rc.ResponseCode.TheVariants as code
use Rattle.tpm_types_common.specs.Rc.{plain}
use Rattle.tpm_types_common.proofs.SelectionLaws.{is_equal}
use Rattle.tpm_types_common.proofs.Spelled.{Spelled}

abbrev bits_of : ℕ × List ℕ → ℕ × List ℕ
bits_of bits = (bits.0, bits.1)

pub attribute_bits_spelled : (reserved : ℕ)
    → Spelled (to_be_bytes w32) (AreAttributeBits reserved) (attribute_bits_at reserved)
unfolding attribute_bits_at
attribute_bits_spelled reserved = record {
  taken = λ bytes x fits e.
      let a = bind_ok (or_fault (number_at w32 bytes) (plain code.Insufficient))
      (λ bits. refused_if (not (bit_and bits.0 reserved == 0)) (plain code.ReservedBits)
      >>= λ named. Ok (bits_of bits)) x e in
      let b = bind_ok (refused_if (not (bit_and a.0.0 reserved == 0)) (plain code.ReservedBits))
      (λ named. Ok (bits_of a.0)) x a.2 in
      let t = number_or_takes w32 (2 ^ 32) wide32 (plain code.Insufficient) bytes a.0 fits a.1 in
      let named = is_equal (bit_and a.0.0 reserved) 0
      (passed (not (bit_and a.0.0 reserved == 0)) (plain code.ReservedBits) b.0 b.1) in
      subst (λ (y : ℕ × List ℕ). Takes bytes (to_be_bytes w32 y.0) y.1
      × AreAttributeBits reserved y.0) (ok_is (bits_of a.0) x b.2)
      (t.0, record { fits = t.1; named = named });
  again =
      λ bits rest is. rw (
        number_or_again w32 (2 ^ 32) wide32 (plain code.Insufficient) bits rest
            is.fits,
        is.named,
      ) refl;
}

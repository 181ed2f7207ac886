-- The S-box values of two bytes are the published values (FIPS 197, 5.1.1, figure 7).
use Rattle.std.proofs.Common.{◌≡◌, refl}
use Rattle.tpm_aes.specs.Field.{affine, inverse, sub_byte, times_power, times_terms}

sub_byte-00 : sub_byte 0x00 ≡ 0x63
unfolding sub_byte affine inverse times_terms times_power
sub_byte-00 = refl

sub_byte-53 : sub_byte 0x53 ≡ 0xed
unfolding sub_byte affine inverse times_terms times_power
sub_byte-53 = refl

pub published_bytes : (sub_byte 0x00 ≡ 0x63) × (sub_byte 0x53 ≡ 0xed)
published_bytes = (sub_byte-00, sub_byte-53)

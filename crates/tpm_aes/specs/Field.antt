-- The field GF(2^8) of AES: polynomials over GF(2) of degree below 8, modulo x^8 + x^4 + x^3 + x +
-- 1 (FIPS 197, 4). A byte represents a polynomial: bit i is the coefficient of x^i. A sum is an
-- XOR.
use Rattle.std.specs.Prelude.{ℕ, zero, suc, ◌+◌, ◌*◌, ◌%◌, ◌^◌, ◌==◌, bit_xor, nat_lt}
use Rattle.std.specs.Prelude.{if◌then◌else◌, map, sum, unwrap_or}
use Rattle.std.specs.Int.{bit_at}
use Rattle.std.specs.List.{find, range_with_len}

-- a times x (FIPS 197, 4.2.1); 0x11b is x^8 + x^4 + x^3 + x + 1
abbrev pub times_x : ℕ → ℕ
times_x a = if nat_lt a 0x80 then 2 * a else bit_xor (2 * a) 0x11b

-- a times x^n
unfoldable pub times_power : ℕ → ℕ → ℕ
times_power a zero = a
times_power a (suc n) = times_x (times_power a n)

-- a times the terms of b whose degree is below n: the sum of a times x^i over these terms x^i
unfoldable pub times_terms : ℕ → ℕ → ℕ → ℕ
times_terms a b zero = 0
times_terms a b (suc n) = bit_xor (times_terms a b n) (bit_at b n * times_power a n)

-- a times b (FIPS 197, 4.2)
abbrev pub times : ℕ → ℕ → ℕ
times a b = times_terms a b 8

-- the inverse of a: the b for which a times b is 1. Only 0 has no inverse; for 0, the result is 0
-- (FIPS 197, 4.2 and 5.1.1)
unfoldable pub inverse : ℕ → ℕ
inverse a = unwrap_or (find (λ b. times a b == 1) (range_with_len 0 256)) 0

-- bit i of the affine image of b: the sum of five bits of b and bit i of 0x63 (FIPS 197, 5.1.1)
abbrev pub affine_bit : ℕ → ℕ → ℕ
affine_bit b i =
    (bit_at b i + bit_at b ((i + 4) % 8) + bit_at b ((i + 5) % 8) + bit_at b ((i + 6) % 8)
    + bit_at b ((i + 7) % 8) + bit_at 0x63 i) % 2

-- the affine image of b over GF(2), with the constant 0x63 (FIPS 197, 5.1.1)
unfoldable pub affine : ℕ → ℕ
affine b = sum (map (λ i. affine_bit b i * 2 ^ i) (range_with_len 0 8))

-- the S-box: the inverse, followed by the affine map (FIPS 197, 5.1.1)
unfoldable pub sub_byte : ℕ → ℕ
sub_byte a = affine (inverse a)

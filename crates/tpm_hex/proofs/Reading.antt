-- Decoding a pair of hex digits yields a byte or fails, depending on the values of its digits.
use Rattle.std.proofs.Common.{◌≡◌, ℕ, ◌+◌, ◌*◌, ◌%◌, ◌<◌, ◌≤◌, inl, inr, List, length, take, drop, max, slice_index, slice_set, unwrap_or, Option, Some, None, Ok, Err, ap, refl, sym, arith}
use Rattle.std.proofs.lemmas.Bool.{cases_lt}
use Rattle.hex.specs.Hex.{decode_pairs, hex_digit_value, pair_value}
use Rattle.hex.specs.declared.error.FromHexError.{FromHexError}
use Rattle.hex.specs.declared.error.FromHexError.TheVariants.{InvalidHexCharacter}
use Rattle.hex.proofs.Pairs.{decode_err, decode_step, prepend}

-- If the largest digit value so far is below 16, the pairs before index `place` decode to the first
-- bytes. Otherwise decoding fails.
abbrev pub PairsTellSoFar : List ℕ → (largest : ℕ) → (place : ℕ) → (bytes : List ℕ) → Type 0
PairsTellSoFar digits largest place bytes =
    (largest < 16 → decode_pairs 0 digits
    ≡ prepend (take place bytes) (decode_pairs (2 * place) (drop (2 * place) digits)))
    × (16 ≤ largest → (fault : FromHexError) × (decode_pairs 0 digits ≡ Err fault))

-- If the value of a byte is below 16, this byte is the hex digit with that value.
small_is_digit : (digit : Option ℕ) (value : ℕ) → value ≡ unwrap_or digit 255 → value < 16
    → digit ≡ Some value
small_is_digit (Some own) value e small = ap Some (sym e)
small_is_digit None value e small = absurd (omega (arith, e, small))

large_is_none : (byte value : ℕ) → value ≡ unwrap_or (hex_digit_value byte) 255 → 16 ≤ value
    → hex_digit_value byte ≡ None
large_is_none byte value e large = grind (arith)

-- Two hex digits encode the byte whose upper and lower four bits are the digits' values.
digits_write : (first second high low index : ℕ)
    → hex_digit_value first ≡ Some high → hex_digit_value second ≡ Some low → high < 16 → low < 16
    → pair_value first second index ≡ Ok (high % 16 * 16 + low % 16)
digits_write first second high low index e f small small' =
    rw (e, f) (ap Ok (omega (arith, small, small')))

-- Decoding a pair of digits fails at the first byte that is not a digit.
first_is_bad : (first second index : ℕ) → hex_digit_value first ≡ None
    → pair_value first second index ≡ Err (InvalidHexCharacter first index)
first_is_bad first second index e = rw e refl

second_is_bad : (first second high index : ℕ) → hex_digit_value first ≡ Some high
    → hex_digit_value second ≡ None
    → pair_value first second index ≡ Err (InvalidHexCharacter second (index + 1))
second_is_bad first second high index e f = rw (e, f) refl

pair_is_bad : (first second high low index : ℕ) → high ≡ unwrap_or (hex_digit_value first) 255
    → low ≡ unwrap_or (hex_digit_value second) 255 → 16 ≤ max high low
    → (fault : FromHexError) × (pair_value first second index ≡ Err fault)
pair_is_bad first second high low index e f large =
    elim (cases_lt high 16) [
      | inl small ↦ (
        _,
        second_is_bad first second high index (small_is_digit _ high e small)
            (large_is_none second low f (omega (arith, large, small))),
      )
      | inr not_small ↦ (_, first_is_bad first second index (large_is_none first high e not_small))
    ]

-- If `PairsTellSoFar` holds for the pairs before `place`, it also holds after the next pair is
-- decoded.
pub pair_read : (digits bytes : List ℕ) (largest place high low next : ℕ)
    → 2 * place + 1 < length digits → place < length bytes
    → high ≡ unwrap_or (hex_digit_value (slice_index digits (2 * place))) 255
    → low ≡ unwrap_or (hex_digit_value (slice_index digits (2 * place + 1))) 255
    → next ≡ max (max largest high) low → PairsTellSoFar digits largest place bytes
    → PairsTellSoFar digits next (place + 1) (slice_set bytes place (high % 16 * 16 + low % 16))
pair_read digits bytes largest place high low next fits room e f n so_far = (
  λ small.
      decode_step digits bytes place _ fits room
      (digits_write (slice_index digits (2 * place)) (slice_index digits (2 * place + 1)) high low
      (2 * place) (small_is_digit _ high e (omega (arith, n, small)))
      (small_is_digit _ low f (omega (arith, n, small))) (omega (arith, n, small))
      (omega (arith, n, small)))
      (so_far.0 (omega (arith, n, small))),
  λ large.
      elim (cases_lt largest 16) [
        | inl small ↦
            let bad = pair_is_bad (slice_index digits (2 * place))
            (slice_index digits (2 * place + 1)) high low (2 * place) e f
            (omega (arith, n, large, small)) in
            (bad.0, decode_err digits bytes place bad.0 fits bad.1 (so_far.0 small))
        | inr not_small ↦ so_far.1 not_small
      ],
)

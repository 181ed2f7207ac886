-- A list that is filled from its start, byte by byte or block by block, starts with the bytes that
-- were written.
use Rattle.std.proofs.Common.{◌≡◌, ℕ, zero, suc, ◌+◌, ◌-◌, ◌<◌, ◌≤◌, List, [], ◌∷◌, ◌++◌, add-zero, ap, append_assoc, arith, bit_xor, drop, length, length-append, length-drop, refl, replicate, slice_index_or, slice_set, sym, take, ◌∙◌, inl, inr}
use Rattle.std.proofs.lemmas.Bool.{cases_lt}
use Rattle.std.proofs.lemmas.Grind.{get_or_default_zero}
use Rattle.std.proofs.lemmas.List.{append-nil, drop-replicate, drop_all, length-map, length-take-le, take_all, take_at}
use Rattle.std.proofs.lemmas.List.Edits.{map_over_more}
use Rattle.std.proofs.Math.Seq.{take-append-add}
use Rattle.std.specs.List.{range_with_len}
use Rattle.tpm_mac.specs.Hmac.{masked_key}

-- If bytes overwrite the start of 64 zeros, the result is these bytes, padded with zeros to 64
-- bytes.
pub zeros_overwritten : (zeros bytes written : List ℕ) → zeros ≡ replicate 64 0 → written ≡ bytes
    → written ++ drop (length bytes) zeros ≡ bytes ++ replicate (64 - length bytes) 0
zeros_overwritten zeros bytes written blank same =
    let none : ℕ = 0 in
    rw (blank, same, drop-replicate (length bytes) 64 none) refl

-- If the first i bytes of a key are masked, and byte i is then masked too, the first i + 1 bytes
-- are masked.
pub masked_more : (key bytes : List ℕ) (pad i : ℕ) → i < length key
    → bytes ≡ masked_key pad (take i key) ++ drop i key
    → slice_set bytes i (bit_xor (slice_index_or bytes i 0) pad) ≡ masked_key pad (take (i + 1) key)
    ++ drop (i + 1) key
masked_more key bytes pad i within so_far =
    let size : length bytes ≡ length key =
    omega (
      arith,
      simp (length-append, length-map, length-drop, length-take-le i key (omega arith))
          at (ap length so_far),
    ) in
    let byte = slice_index_or bytes i 0 in
    map_over_more (λ (x : ℕ). bit_xor x pad) key bytes i byte within so_far
    (sym (get_or_default_zero bytes i byte (omega arith)))

-- A list consists of the first `room` bytes of a block, followed by the bytes `rest`, which are
-- empty if the block is longer than `room`. The first `length block` bytes of this list are the
-- first `room` bytes of the block.
take-cut_block : (block rest : List ℕ) (room : ℕ) → (room < length block → rest ≡ [])
    → take (length block) (take room block ++ rest) ≡ take room block
take-cut_block block rest room none =
    elim (cases_lt room (length block)) [
      | inl cut ↦ rw (none cut, append-nil)
          (take_all (length block) (take room block)
          (omega (arith, length-take-le room block (omega arith))))
      | inr fits ↦ rw (take_all room block fits) (take_at block rest (length block) refl)
    ]

-- If a block is written after some bytes, and is truncated if it does not fit, the list then starts
-- with these bytes, followed by the block.
pub take-block_written : (old before block : List ℕ) → length before ≤ length old
    → take (length before + length block)
    (before ++ take (length old - length before) block ++ drop (length before + length block) old)
    ≡ take (length old) (before ++ block)
take-block_written old before block fits =
    let room : ℕ = length old - length before in
    let rest : List ℕ = drop (length before + length block) old in
    let none : room < length block → rest ≡ [] =
    λ cut. drop_all (length before + length block) old (omega arith) in
    let all : length old ≡ length before + room = omega arith in
    ap (take (length before + length block)) (append_assoc before (take room block) rest)
    ∙ take-append-add before (take room block ++ rest) (length block)
    ∙ ap (λ (xs : List ℕ). before ++ xs) (take-cut_block block rest room none)
    ∙ sym (ap (λ (k : ℕ). take k (before ++ block)) all ∙ take-append-add before block room)

-- A range of n + 1 numbers is the range of the first n numbers, followed by the last number.
pub range_with_len-suc : (a n : ℕ) → range_with_len a (suc n) ≡ range_with_len a n ++ (a + n) ∷ []
range_with_len-suc a zero = rw (add-zero a) refl
range_with_len-suc a (suc n) =
    let last : a + 1 + n ≡ a + suc n = omega arith in
    ap (λ (xs : List ℕ). a ∷ xs)
    (range_with_len-suc (a + 1) n ∙ ap (λ (k : ℕ). range_with_len (a + 1) n ++ k ∷ []) last)

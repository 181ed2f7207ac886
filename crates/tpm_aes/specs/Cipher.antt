-- AES-128 encryption (FIPS 197). A block, a state and a round key are lists of sixteen bytes,
-- column by column: row r of column c is byte r + 4 * c (3.4). A word is a column.
use Rattle.std.specs.Prelude.{ℕ, zero, suc, ◌+◌, ◌-◌, ◌*◌, ◌/◌, ◌%◌, bit_xor}
use Rattle.std.specs.Prelude.{List, [], ◌∷◌, ◌++◌, map, slice_index}
use Rattle.std.specs.List.{flat_map, range_with_len}
use Rattle.tpm_aes.specs.Field.{sub_byte, times, times_power}

-- the bytewise XOR of two lists, up to the end of the shorter list (FIPS 197, 5.1.4, AddRoundKey)
abbrev pub xor_of : List ℕ → List ℕ → List ℕ
xor_of [] ys = []
xor_of (x ∷ xs) [] = []
xor_of (x ∷ xs) (y ∷ ys) = bit_xor x y ∷ xor_of xs ys

-- word c of a block
abbrev pub word_of : List ℕ → ℕ → List ℕ
word_of block c = map (λ r. slice_index block (r + 4 * c)) (range_with_len 0 4)

-- SubBytes: each byte is replaced using the S-box (FIPS 197, 5.1.1)
abbrev pub sub_bytes : List ℕ → List ℕ
sub_bytes state = map sub_byte state

-- ShiftRows: each row r is rotated left by r columns. Column c of the new row is column c + r of
-- the old row (FIPS 197, 5.1.2)
unfoldable pub shift_rows : List ℕ → List ℕ
shift_rows state =
    map (λ i. slice_index state (i % 4 + 4 * ((i / 4 + i % 4) % 4))) (range_with_len 0 16)

-- MixColumns for one column: the column times 3 x^3 + x^2 + x + 2, modulo x^4 + 1 (FIPS 197, 5.1.3)
unfoldable pub mix_column : List ℕ → List ℕ
mix_column s =
    let s0 : ℕ = slice_index s 0 in
    let s1 : ℕ = slice_index s 1 in
    let s2 : ℕ = slice_index s 2 in
    let s3 : ℕ = slice_index s 3 in
    bit_xor (bit_xor (bit_xor (times s0 2) (times s1 3)) s2) s3
    ∷ bit_xor (bit_xor (bit_xor s0 (times s1 2)) (times s2 3)) s3
    ∷ bit_xor (bit_xor (bit_xor s0 s1) (times s2 2)) (times s3 3)
    ∷ bit_xor (bit_xor (bit_xor (times s0 3) s1) s2) (times s3 2) ∷ []

-- MixColumns: each column is mixed (FIPS 197, 5.1.3)
unfoldable pub mix_columns : List ℕ → List ℕ
mix_columns state = flat_map (λ c. mix_column (word_of state c)) (range_with_len 0 4)

-- RotWord: the word rotated left by a byte (FIPS 197, 5.2)
abbrev pub rot_word : List ℕ → List ℕ
rot_word word =
    slice_index word 1 ∷ slice_index word 2 ∷ slice_index word 3 ∷ slice_index word 0 ∷ []

-- SubWord(RotWord(w)) xor Rcon[n], where w is the last word of the key for round n - 1 (FIPS 197,
-- 5.2)
unfoldable pub scheduled_word : ℕ → List ℕ → List ℕ
scheduled_word n word =
    xor_of (map sub_byte (rot_word word)) (times_power 1 (n - 1) ∷ 0 ∷ 0 ∷ 0 ∷ [])

-- the key for round n, computed from the previous round's key (FIPS 197, 5.2)
unfoldable pub next_round_key : ℕ → List ℕ → List ℕ
next_round_key n key =
    let w0 : List ℕ = xor_of (word_of key 0) (scheduled_word n (word_of key 3)) in
    let w1 : List ℕ = xor_of (word_of key 1) w0 in
    let w2 : List ℕ = xor_of (word_of key 2) w1 in
    let w3 : List ℕ = xor_of (word_of key 3) w2 in
    w0 ++ (w1 ++ (w2 ++ w3))

-- the key for round n (FIPS 197, 5.2)
unfoldable pub round_key : List ℕ → ℕ → List ℕ
round_key key zero = key
round_key key (suc n) = next_round_key (suc n) (round_key key n)

-- the keys of all rounds (FIPS 197, 5.2)
unfoldable pub expanded_key : List ℕ → List (List ℕ)
expanded_key key = map (round_key key) (range_with_len 0 11)

-- the state after round n, for n below 10 (FIPS 197, 5.1)
unfoldable pub state_after : List ℕ → List ℕ → ℕ → List ℕ
state_after key block zero = xor_of block (round_key key 0)
state_after key block (suc n) =
    xor_of (mix_columns (shift_rows (sub_bytes (state_after key block n)))) (round_key key (suc n))

-- the encrypted block, after ten rounds. The last round does not mix columns (FIPS 197, 5.1)
unfoldable pub aes_of : (key block : List ℕ) → List ℕ
aes_of key block =
    xor_of (shift_rows (sub_bytes (state_after key block 9))) (round_key key 10)

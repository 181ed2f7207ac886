-- The steps of an AES round and of the key expansion, computed on 32-bit words, match the standard.
use Rattle.std.proofs.Common.{◌≡◌, ℕ, ◌-◌, ◌<◌, ◌≤◌, List, [], ◌∷◌, ◌++◌, ap, ap₂, arith, bit_xor, length, map, refl, slice_index_or, sym, ◌∙◌}
use Rattle.std.proofs.lemmas.List.FromFn.{get_or-map-range_with_len}
use Rattle.std.specs.Int.{to_le_bytes, w32}
use Rattle.std.specs.List.{range_with_len}
use Rattle.tpm_aes.proofs.Steps.{words_mixed}
use Rattle.tpm_aes.proofs.Words.{bytes-byte, bytes-xor, four_words}
use Rattle.tpm_aes.specs.Cipher.{mix_column, mix_columns, next_round_key, scheduled_word, shift_rows, sub_bytes, word_of, xor_of}
use Rattle.tpm_aes.specs.Field.{times_power}
use Rattle.tpm_aes.specs.Words.{bytes_of}
use Rattle.tpm_aes.specs.declared.key_schedule.TheConstants.{ROUND_CONSTANTS}

-- the column with row 0 of a, row 1 of b, row 2 of c and row 3 of d
abbrev pub shifted_column : (a b c d : List ℕ) → List ℕ
shifted_column a b c d =
    slice_index_or a 0 0 ∷ slice_index_or b 1 0 ∷ slice_index_or c 2 0 ∷ slice_index_or d 3 0 ∷ []

-- the concatenated results of applying g to each column of a state
abbrev columns_by : (g : List ℕ → List ℕ) (state : List ℕ) → List ℕ
columns_by g state =
    g (word_of state 0) ++ (g (word_of state 1) ++ (g (word_of state 2) ++ g (word_of state 3)))

columns_made : (g : List ℕ → List ℕ) (p q r s : ℕ)
    → let a = to_le_bytes w32 p in let b = to_le_bytes w32 q in
    let c = to_le_bytes w32 r in let d = to_le_bytes w32 s in
    g (sub_bytes (shifted_column a b c d)) ++ (g (sub_bytes (shifted_column b c d a))
    ++ (g (sub_bytes (shifted_column c d a b)) ++ g (sub_bytes (shifted_column d a b c))))
    ≡ columns_by g (shift_rows (sub_bytes (bytes_of (p ∷ q ∷ r ∷ s ∷ []))))
unfolding shift_rows
columns_made g p q r s = refl

-- A function g can be applied to the state after SubBytes and ShiftRows one column at a time: v, w,
-- x and y are the results for the four columns.
columns_words : (g : List ℕ → List ℕ) (state a b c d : List ℕ) (v w x y : ℕ) → length state ≡ 4
    → a ≡ to_le_bytes w32 (slice_index_or state 0 0)
    → b ≡ to_le_bytes w32 (slice_index_or state 1 0)
    → c ≡ to_le_bytes w32 (slice_index_or state 2 0)
    → d ≡ to_le_bytes w32 (slice_index_or state 3 0)
    → to_le_bytes w32 v ≡ g (sub_bytes (shifted_column a b c d))
    → to_le_bytes w32 w ≡ g (sub_bytes (shifted_column b c d a))
    → to_le_bytes w32 x ≡ g (sub_bytes (shifted_column c d a b))
    → to_le_bytes w32 y ≡ g (sub_bytes (shifted_column d a b c))
    → bytes_of (v ∷ w ∷ x ∷ y ∷ []) ≡ columns_by g (shift_rows (sub_bytes (bytes_of state)))
columns_words g state a b c d v w x y size is_a is_b is_c is_d is_v is_w is_x is_y =
    let made = λ (a' b' c' d' : List ℕ).
    g (sub_bytes (shifted_column a' b' c' d')) ++ (g (sub_bytes (shifted_column b' c' d' a'))
    ++ (g (sub_bytes (shifted_column c' d' a' b'))
    ++ g (sub_bytes (shifted_column d' a' b' c')))) in
    let parts : bytes_of (v ∷ w ∷ x ∷ y ∷ []) ≡ made a b c d =
    λ i. is_v i ++ (is_w i ++ (is_x i ++ is_y i)) in
    parts ∙ (λ i. made (is_a i) (is_b i) (is_c i) (is_d i))
    ∙ columns_made g _ _ _ _
    ∙ sym (ap (λ (words : List ℕ). columns_by g (shift_rows (sub_bytes (bytes_of words))))
    (four_words state size))

-- The words of four mixed columns are the state after SubBytes, ShiftRows and MixColumns.
pub mixed_words : (state a b c d : List ℕ) (v w x y : ℕ) → length state ≡ 4
    → a ≡ to_le_bytes w32 (slice_index_or state 0 0)
    → b ≡ to_le_bytes w32 (slice_index_or state 1 0)
    → c ≡ to_le_bytes w32 (slice_index_or state 2 0)
    → d ≡ to_le_bytes w32 (slice_index_or state 3 0)
    → to_le_bytes w32 v ≡ mix_column (sub_bytes (shifted_column a b c d))
    → to_le_bytes w32 w ≡ mix_column (sub_bytes (shifted_column b c d a))
    → to_le_bytes w32 x ≡ mix_column (sub_bytes (shifted_column c d a b))
    → to_le_bytes w32 y ≡ mix_column (sub_bytes (shifted_column d a b c))
    → bytes_of (v ∷ w ∷ x ∷ y ∷ []) ≡ mix_columns (shift_rows (sub_bytes (bytes_of state)))
mixed_words state a b c d v w x y size is_a is_b is_c is_d is_v is_w is_x is_y =
    columns_words mix_column state a b c d v w x y size is_a is_b is_c is_d is_v is_w is_x is_y
    ∙ sym (words_mixed (shift_rows (sub_bytes (bytes_of state))))

words_shifted : (state : List ℕ) → columns_by (λ column. column) (shift_rows state)
    ≡ shift_rows state
unfolding shift_rows
words_shifted state = refl

-- The words of four columns that are not mixed, as in the last round, are the state after SubBytes
-- and ShiftRows.
pub shifted_words : (state a b c d : List ℕ) (v w x y : ℕ) → length state ≡ 4
    → a ≡ to_le_bytes w32 (slice_index_or state 0 0)
    → b ≡ to_le_bytes w32 (slice_index_or state 1 0)
    → c ≡ to_le_bytes w32 (slice_index_or state 2 0)
    → d ≡ to_le_bytes w32 (slice_index_or state 3 0)
    → to_le_bytes w32 v ≡ sub_bytes (shifted_column a b c d)
    → to_le_bytes w32 w ≡ sub_bytes (shifted_column b c d a)
    → to_le_bytes w32 x ≡ sub_bytes (shifted_column c d a b)
    → to_le_bytes w32 y ≡ sub_bytes (shifted_column d a b c)
    → bytes_of (v ∷ w ∷ x ∷ y ∷ []) ≡ shift_rows (sub_bytes (bytes_of state))
shifted_words state a b c d v w x y size is_a is_b is_c is_d is_v is_w is_x is_y =
    columns_words (λ column. column) state a b c d v w x y size is_a is_b is_c is_d is_v is_w is_x
    is_y
    ∙ words_shifted (sub_bytes (bytes_of state))

constant_values : ROUND_CONSTANTS ≡ map (times_power 1) (range_with_len 0 10)
unfolding times_power
constant_values = refl

-- The constant of round n is x to the power n - 1.
pub constant_at : (n : ℕ) → 1 ≤ n → n ≤ 10
    → slice_index_or ROUND_CONSTANTS (n - 1) 0 ≡ times_power 1 (n - 1)
constant_at n low high =
    ap (λ (t : List ℕ). slice_index_or t (n - 1) 0) constant_values
    ∙ get_or-map-range_with_len (times_power 1) 0 10 (n - 1) (n - 1) 0 (omega arith) (omega arith)

-- the bytes of a word, rotated and substituted
abbrev turned : List ℕ → List ℕ
turned bytes =
    sub_bytes (slice_index_or bytes 1 0 ∷ slice_index_or bytes 2 0 ∷ slice_index_or bytes 3 0
    ∷ slice_index_or bytes 0 0 ∷ [])

-- Rotating and substituting the bytes of a word, and XORing them with the round's constant, yields
-- the scheduled word.
pub scheduled_sum : (n word sum constant added : ℕ) (bytes : List ℕ) → bytes ≡ to_le_bytes w32 word
    → to_le_bytes w32 sum ≡ turned bytes → added ≡ constant → constant < 256
    → constant ≡ times_power 1 (n - 1)
    → to_le_bytes w32 (bit_xor sum added) ≡ scheduled_word n (to_le_bytes w32 word)
unfolding scheduled_word
scheduled_sum n word sum constant added bytes is_bytes is_sum is_added small of_round =
    let term : to_le_bytes w32 added ≡ times_power 1 (n - 1) ∷ 0 ∷ 0 ∷ 0 ∷ [] =
    ap (to_le_bytes w32) is_added ∙ bytes-byte constant small
    ∙ ap (λ (k : ℕ). k ∷ 0 ∷ 0 ∷ 0 ∷ []) of_round in
    bytes-xor sum added ∙ ap₂ xor_of (is_sum ∙ ap turned is_bytes) term

-- The next round key, computed from the four words of a round key, matches the standard.
next_of_four : (n p q r s added : ℕ) → to_le_bytes w32 added ≡ scheduled_word n (to_le_bytes w32 s)
    → let first = bit_xor p added in let second = bit_xor q first in let third = bit_xor r second in
    bytes_of (first ∷ second ∷ third ∷ bit_xor s third ∷ [])
    ≡ next_round_key n (bytes_of (p ∷ q ∷ r ∷ s ∷ []))
unfolding next_round_key
next_of_four n p q r s added is_added =
    let first : ℕ = bit_xor p added in
    let second : ℕ = bit_xor q first in
    let third : ℕ = bit_xor r second in
    let w0 = bytes-xor p added ∙ ap (xor_of (to_le_bytes w32 p)) is_added in
    let w1 = bytes-xor q first ∙ ap (xor_of (to_le_bytes w32 q)) w0 in
    let w2 = bytes-xor r second ∙ ap (xor_of (to_le_bytes w32 r)) w1 in
    let w3 = bytes-xor s third ∙ ap (xor_of (to_le_bytes w32 s)) w2 in
    λ i. w0 i ++ (w1 i ++ (w2 i ++ w3 i))

-- The next round key, computed from a list of four words, matches the standard.
pub next_words : (n added : ℕ) (key : List ℕ) → length key ≡ 4
    → to_le_bytes w32 added ≡ scheduled_word n (to_le_bytes w32 (slice_index_or key 3 0))
    → let first = bit_xor (slice_index_or key 0 0) added in
    let second = bit_xor (slice_index_or key 1 0) first in
    let third = bit_xor (slice_index_or key 2 0) second in
    bytes_of (first ∷ second ∷ third ∷ bit_xor (slice_index_or key 3 0) third ∷ [])
    ≡ next_round_key n (bytes_of key)
next_words n added key size is_added =
    next_of_four n _ _ _ _ added is_added
    ∙ sym (ap (λ (words : List ℕ). next_round_key n (bytes_of words)) (four_words key size))

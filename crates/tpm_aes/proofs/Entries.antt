-- The entries of the lookup tables are correct.
use Rattle.std.proofs.Common.{◌≡◌, ℕ, suc, zero, ◌<◌, List, [], ◌∷◌, map, length, ap, ap₂, arith, bit_xor, refl, slice_index_or, sym, ◌∙◌}
use Rattle.std.proofs.lemmas.List.{get_or-map}
use Rattle.std.proofs.lemmas.List.FromFn.{get_or-map-range_with_len}
use Rattle.std.specs.Int.{to_le_bytes, w32}
use Rattle.std.specs.Int.Bits.{xor_zero_r}
use Rattle.std.specs.List.{range_with_len}
use Rattle.tpm_aes.proofs.Words.{bytes-xor}
use Rattle.tpm_aes.specs.Cipher.{mix_column, xor_of}
use Rattle.tpm_aes.specs.Field.{affine, inverse, sub_byte, times, times_power, times_terms}
use Rattle.tpm_aes.specs.Tables.{AreMixed, IsSBox}
use Rattle.tpm_aes.specs.declared.tables.TheConstants.{MIXED, S_BOX}

s_box_values : S_BOX ≡ map sub_byte (range_with_len 0 256)
unfolding sub_byte affine inverse times_power times_terms
s_box_values = refl

-- Entry a of the S-box is the S-box value of a.
pub s_box_at : (i a : ℕ) → i ≡ a → a < 256 → slice_index_or S_BOX i 0 ≡ sub_byte a
s_box_at i a same byte =
    ap (λ (t : List ℕ). slice_index_or t i 0) s_box_values
    ∙ get_or-map-range_with_len sub_byte 0 256 i a 0 (omega arith) (omega arith)

-- If each word of a table is f applied to the S-box entry with the same index, then entry a of the
-- table is f applied to the S-box value of a.
word_at : (f : ℕ → List ℕ) (table : List ℕ) → length table ≡ 256
    → map (to_le_bytes w32) table ≡ map f S_BOX
    → (i a : ℕ) → i ≡ a → a < 256 → to_le_bytes w32 (slice_index_or table i 0) ≡ f (sub_byte a)
word_at f table size values i a same byte =
    sym (get_or-map (to_le_bytes w32) table i 0 [] (omega arith))
    ∙ ap (λ (ws : List (List ℕ)). slice_index_or ws i []) values
    ∙ get_or-map f S_BOX i 0 [] (omega arith)
    ∙ ap f (s_box_at i a same byte)

-- the lookup table for row r
abbrev mixed_table : ℕ → List ℕ
mixed_table r = slice_index_or MIXED r []

-- the result of MixColumns for a column with this byte in one row, and zeros elsewhere
abbrev mixed_0 : ℕ → List ℕ
mixed_0 s = mix_column (s ∷ 0 ∷ 0 ∷ 0 ∷ [])

abbrev mixed_1 : ℕ → List ℕ
mixed_1 s = mix_column (0 ∷ s ∷ 0 ∷ 0 ∷ [])

abbrev mixed_2 : ℕ → List ℕ
mixed_2 s = mix_column (0 ∷ 0 ∷ s ∷ 0 ∷ [])

abbrev mixed_3 : ℕ → List ℕ
mixed_3 s = mix_column (0 ∷ 0 ∷ 0 ∷ s ∷ [])

mixed_0_values : map (to_le_bytes w32) (mixed_table 0) ≡ map mixed_0 S_BOX
unfolding mix_column times_power times_terms
mixed_0_values = refl

mixed_1_values : map (to_le_bytes w32) (mixed_table 1) ≡ map mixed_1 S_BOX
unfolding mix_column times_power times_terms
mixed_1_values = refl

mixed_2_values : map (to_le_bytes w32) (mixed_table 2) ≡ map mixed_2 S_BOX
unfolding mix_column times_power times_terms
mixed_2_values = refl

mixed_3_values : map (to_le_bytes w32) (mixed_table 3) ≡ map mixed_3 S_BOX
unfolding mix_column times_power times_terms
mixed_3_values = refl

-- Entry a of lookup table r is the result of MixColumns for the column with the S-box value of a in
-- row r, and zeros elsewhere.
pub mixed_0_at : (i a : ℕ) → i ≡ a → a < 256
    → to_le_bytes w32 (slice_index_or (mixed_table 0) i 0) ≡ mixed_0 (sub_byte a)
mixed_0_at = word_at mixed_0 (mixed_table 0) refl mixed_0_values

pub mixed_1_at : (i a : ℕ) → i ≡ a → a < 256
    → to_le_bytes w32 (slice_index_or (mixed_table 1) i 0) ≡ mixed_1 (sub_byte a)
mixed_1_at = word_at mixed_1 (mixed_table 1) refl mixed_1_values

pub mixed_2_at : (i a : ℕ) → i ≡ a → a < 256
    → to_le_bytes w32 (slice_index_or (mixed_table 2) i 0) ≡ mixed_2 (sub_byte a)
mixed_2_at = word_at mixed_2 (mixed_table 2) refl mixed_2_values

pub mixed_3_at : (i a : ℕ) → i ≡ a → a < 256
    → to_le_bytes w32 (slice_index_or (mixed_table 3) i 0) ≡ mixed_3 (sub_byte a)
mixed_3_at = word_at mixed_3 (mixed_table 3) refl mixed_3_values

-- Every entry of the S-box and of the four lookup tables is correct.
pub s_box_entries : IsSBox S_BOX
s_box_entries a byte = s_box_at a a refl byte

pub mixed_entries : AreMixed MIXED
mixed_entries zero a row byte = mixed_0_at a a refl byte
mixed_entries (suc zero) a row byte = mixed_1_at a a refl byte
mixed_entries (suc (suc zero)) a row byte = mixed_2_at a a refl byte
mixed_entries (suc (suc (suc zero))) a row byte = mixed_3_at a a refl byte
mixed_entries (suc (suc (suc (suc r)))) a row byte = absurd (omega arith)

times_zero_two : times 0 2 ≡ 0
unfolding times_power times_terms
times_zero_two = refl

times_zero_three : times 0 3 ≡ 0
unfolding times_power times_terms
times_zero_three = refl

-- The mixed column of four bytes is the XOR of the mixed columns of the single bytes.
pub mixed_sum : (a b c d : ℕ)
    → xor_of (xor_of (xor_of (mixed_0 a) (mixed_1 b)) (mixed_2 c)) (mixed_3 d)
    ≡ mix_column (a ∷ b ∷ c ∷ d ∷ [])
unfolding mix_column
mixed_sum a b c d = simp (times_zero_two, times_zero_three, xor_zero_r) refl

-- If four words are the mixed columns of single bytes, their XOR is the mixed column of these four
-- bytes.
pub mixed_word : (v w x y a b c d : ℕ) → to_le_bytes w32 v ≡ mixed_0 a
    → to_le_bytes w32 w ≡ mixed_1 b
    → to_le_bytes w32 x ≡ mixed_2 c → to_le_bytes w32 y ≡ mixed_3 d
    → to_le_bytes w32 (bit_xor (bit_xor (bit_xor v w) x) y) ≡ mix_column (a ∷ b ∷ c ∷ d ∷ [])
mixed_word v w x y a b c d is_a is_b is_c is_d =
    let two : to_le_bytes w32 (bit_xor v w) ≡ xor_of (mixed_0 a) (mixed_1 b) =
    bytes-xor v w ∙ ap₂ xor_of is_a is_b in
    let three : to_le_bytes w32 (bit_xor (bit_xor v w) x)
    ≡ xor_of (xor_of (mixed_0 a) (mixed_1 b)) (mixed_2 c) =
    bytes-xor (bit_xor v w) x ∙ ap₂ xor_of two is_c in
    bytes-xor (bit_xor (bit_xor v w) x) y ∙ ap₂ xor_of three is_d ∙ mixed_sum a b c d

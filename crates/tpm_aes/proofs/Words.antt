-- XORing two words XORs their bytes. XORing a list byte by byte yields the XOR of the whole list.
use Rattle.std.proofs.Common.{◌≡◌, ℕ, suc, zero, ◌+◌, ◌/◌, ◌%◌, ◌^◌, ◌<◌, ◌≤◌, List, [], ◌∷◌, ◌++◌, add-one, ap, ap₂, arith, bit_xor, drop, length, refl, slice_index_or, slice_set, sym, take, ◌∙◌}
use Rattle.std.proofs.lemmas.Nat.{xor_mod, xor_shr}
use Rattle.std.specs.Int.{to_le_bytes, w32}
use Rattle.tpm_aes.specs.Cipher.{xor_of}
use Rattle.tpm_aes.specs.Words.{bytes_of}

-- Bits k to k + 7 of the XOR of two words are the XOR of their bits k to k + 7.
byte-xor : (a b k : ℕ) → bit_xor a b / 2 ^ k % 256 ≡ bit_xor (a / 2 ^ k % 256) (b / 2 ^ k % 256)
byte-xor a b k = ap (λ (n : ℕ). n % 256) (xor_shr a b k) ∙ xor_mod (a / 2 ^ k) (b / 2 ^ k) 8

-- XORing two words XORs their bytes.
pub bytes-xor : (a b : ℕ)
    → to_le_bytes w32 (bit_xor a b) ≡ xor_of (to_le_bytes w32 a) (to_le_bytes w32 b)
bytes-xor a b = rw (xor_mod a b 8, byte-xor a b 8, byte-xor a b 16, byte-xor a b 24) refl

-- XORing two lists of words XORs their bytes.
pub bytes_of-xor_of : (xs ys : List ℕ) → bytes_of (xor_of xs ys)
    ≡ xor_of (bytes_of xs) (bytes_of ys)
bytes_of-xor_of [] ys = refl
bytes_of-xor_of (x ∷ xs) [] = refl
bytes_of-xor_of (x ∷ xs) (y ∷ ys) =
    ap (λ (bytes : List ℕ). bytes ++ bytes_of (xor_of xs ys)) (bytes-xor x y)
    ∙ ap (λ (bytes : List ℕ). xor_of (to_le_bytes w32 x) (to_le_bytes w32 y) ++ bytes)
    (bytes_of-xor_of xs ys)

-- the first four words of a list
abbrev pub by_index : List ℕ → List ℕ
by_index words =
    slice_index_or words 0 0 ∷ slice_index_or words 1 0
    ∷ slice_index_or words 2 0 ∷ slice_index_or words 3 0 ∷ []

pub four_words : (words : List ℕ) → length words ≡ 4 → words ≡ by_index words
four_words (a ∷ b ∷ c ∷ d ∷ []) size = refl
four_words words size = absurd (omega arith)

-- XORing two lists of four words XORs their bytes.
pub bytes_of-sums : (xs ys : List ℕ) → length xs ≡ 4 → length ys ≡ 4
    → bytes_of (xor_of (by_index xs) (by_index ys)) ≡ xor_of (bytes_of xs) (bytes_of ys)
bytes_of-sums xs ys x4 y4 =
    bytes_of-xor_of (by_index xs) (by_index ys)
    ∙ sym (ap₂ (λ (vs ws : List ℕ). xor_of (bytes_of vs) (bytes_of ws)) (four_words xs x4)
    (four_words ys y4))

-- If a word is below 256, its first byte is the word's value, and its other bytes are zeros.
pub bytes-byte : (a : ℕ) → a < 256 → to_le_bytes w32 a ≡ a ∷ 0 ∷ 0 ∷ 0 ∷ []
bytes-byte a small =
    let first : a % 256 ≡ a = omega arith in
    let second : a / 256 % 256 ≡ 0 = omega arith in
    let third : a / 65536 % 256 ≡ 0 = omega arith in
    let fourth : a / 16777216 % 256 ≡ 0 = omega arith in
    rw (first, second, third, fourth) refl

-- a list whose first i bytes are XORed with the first i bytes of another list
abbrev pub xored_front : List ℕ → List ℕ → ℕ → List ℕ
xored_front old other i = xor_of (take i old) (take i other) ++ drop i old

-- If only the first i bytes of a list are XORed, byte i (counted from 0) is unchanged.
get_or-xored_front : (old other : List ℕ) (i : ℕ) → i < length old → length old ≤ length other
    → slice_index_or (xored_front old other i) i 0 ≡ slice_index_or old i 0
get_or-xored_front [] other i within fits = absurd (omega arith)
get_or-xored_front (x ∷ xs) [] i within fits = absurd (omega arith)
get_or-xored_front (x ∷ xs) (y ∷ ys) zero within fits = refl
get_or-xored_front (x ∷ xs) (y ∷ ys) (suc i) within fits =
    get_or-xored_front xs ys i (omega arith) (omega arith)

-- If the first i bytes have been XORed, and byte i (counted from 0) is then XORed, the first i + 1
-- bytes have been XORed.
set-xored_front : (old other : List ℕ) (i : ℕ) → i < length old → length old ≤ length other
    → slice_set (xored_front old other i) i
    (bit_xor (slice_index_or old i 0) (slice_index_or other i 0))
    ≡ xored_front old other (suc i)
set-xored_front [] other i within fits = absurd (omega arith)
set-xored_front (x ∷ xs) [] i within fits = absurd (omega arith)
set-xored_front (x ∷ xs) (y ∷ ys) zero within fits = refl
set-xored_front (x ∷ xs) (y ∷ ys) (suc i) within fits =
    ap (λ (t : List ℕ). bit_xor x y ∷ t) (set-xored_front xs ys i (omega arith) (omega arith))

-- Like `set-xored_front`, but reads byte i from the list that is being changed.
pub xored_more : (old other bytes : List ℕ) (i : ℕ) → i < length old → length old ≤ length other
    → bytes ≡ xored_front old other i
    → slice_set bytes i (bit_xor (slice_index_or bytes i 0) (slice_index_or other i 0))
    ≡ xored_front old other (i + 1)
xored_more old other bytes i within fits so_far =
    rw (so_far, get_or-xored_front old other i within fits, add-one i)
    (set-xored_front old other i within fits)

-- If n is the length of the list, XORing the first n bytes XORs the whole list.
pub xored_all : (old other : List ℕ) (n : ℕ) → n ≡ length old → length old ≤ length other
    → xored_front old other n ≡ xor_of old other
xored_all [] other zero whole fits = refl
xored_all [] other (suc n) whole fits = absurd (omega arith)
xored_all (x ∷ xs) [] n whole fits = absurd (omega arith)
xored_all (x ∷ xs) (y ∷ ys) zero whole fits = absurd (omega arith)
xored_all (x ∷ xs) (y ∷ ys) (suc n) whole fits =
    ap (λ (t : List ℕ). bit_xor x y ∷ t) (xored_all xs ys n (omega arith) (omega arith))

-- Decryption undoes encryption, and encryption undoes decryption.
use Rattle.std.proofs.Common.{◌≡◌, ℕ, zero, suc, ◌+◌, ◌*◌, ◌/◌, ◌%◌, ◌<◌, ◌≤◌, List, [], ◌∷◌, ◌++◌, add-one, ap, arith, bit_xor, drop, length, length-append, length-drop, min, refl, sym, take, ◌∙◌, inl, inr}
use Rattle.std.proofs.lemmas.Bool.{cases_lt}
use Rattle.std.proofs.lemmas.List.{drop-append-le, drop_at, take-append-le, take_all}
use Rattle.std.proofs.Math.Seq.{take-add}
use Rattle.std.specs.Int.Bits.{xor_assoc, xor_self, xor_zero_r}
use Rattle.tpm_aes.proofs.TextBlocks.{block_count-covers, block_count-inside, length-block_at, pieces_to, pieces_to-suc, pieces_to-zero}
use Rattle.tpm_aes.specs.Cfb.{block_at, block_before, block_count, cfb_decrypt_of, cfb_encrypt_of, cipher_block, plain_block}
use Rattle.tpm_aes.specs.Cipher.{aes_of, next_round_key, round_key, scheduled_word, shift_rows, state_after, sub_bytes, xor_of}

-- ---- lengths

-- if the second list is not shorter than the first, their XOR is as long as the first
length-xor_of-whole : (xs ys : List ℕ) → length xs ≤ length ys → length (xor_of xs ys) ≡ length xs
length-xor_of-whole [] ys fits = refl
length-xor_of-whole (x ∷ xs) [] fits = absurd (omega arith)
length-xor_of-whole (x ∷ xs) (y ∷ ys) fits = omega (arith, length-xor_of-whole xs ys (omega arith))

length-next_round_key : (n : ℕ) (key : List ℕ) → length (next_round_key n key) ≡ 16
unfolding next_round_key scheduled_word
length-next_round_key n key = refl

length-round_key : (key : List ℕ) (n : ℕ) → length (round_key key (suc n)) ≡ 16
unfolding round_key
length-round_key key n = length-next_round_key (suc n) (round_key key n)

length-shift_rows : (state : List ℕ) → length (shift_rows state) ≡ 16
unfolding shift_rows
length-shift_rows state = refl

-- an encrypted block is sixteen bytes long
length-aes_of : (key block : List ℕ) → length (aes_of key block) ≡ 16
unfolding aes_of
length-aes_of key block =
    let state : List ℕ = shift_rows (sub_bytes (state_after key block 9)) in
    length-xor_of-whole state (round_key key 10)
    (omega (
      arith,
      length-shift_rows (sub_bytes (state_after key block 9)),
      length-round_key key 9,
    ))
    ∙ length-shift_rows (sub_bytes (state_after key block 9))

-- XORing a block with a key stream preserves its size
length-streamed : (key feedback text : List ℕ) (i : ℕ)
    → length (xor_of (block_at text i) (aes_of key feedback)) ≡ length (block_at text i)
length-streamed key feedback text i =
    length-xor_of-whole (block_at text i) (aes_of key feedback)
    (omega (arith, length-block_at text i, length-aes_of key feedback))

-- Each piece has the size of the block with the same index.
abbrev AreLikeBlocks : (ℕ → List ℕ) → List ℕ → Type 0
AreLikeBlocks piece text = (i : ℕ) → length (piece i) ≡ length (block_at text i)

length-pieces_to : (piece : ℕ → List ℕ) (text : List ℕ) → AreLikeBlocks piece text
    → (n : ℕ) → length (pieces_to piece n) ≡ min (16 * n) (length text)
length-pieces_to piece text like zero = rw (pieces_to-zero piece) (omega arith)
length-pieces_to piece text like (suc n) =
    rw (pieces_to-suc piece n, length-append)
    (omega (arith, length-pieces_to piece text like n, like n, length-block_at text n))

length-joined : (piece : ℕ → List ℕ) (text : List ℕ) → AreLikeBlocks piece text
    → length (pieces_to piece (block_count text)) ≡ length text
length-joined piece text like =
    length-pieces_to piece text like (block_count text) ∙ omega (arith, block_count-covers text)

-- ---- pieces and their blocks

-- XORing a list twice with the same bytes yields the list again
xor_of-twice : (xs ys : List ℕ) → length (xor_of xs ys) ≡ length xs → xor_of (xor_of xs ys) ys ≡ xs
xor_of-twice [] ys whole = refl
xor_of-twice (x ∷ xs) [] whole = absurd (omega arith)
xor_of-twice (x ∷ xs) (y ∷ ys) whole =
    let byte : bit_xor (bit_xor x y) y ≡ x = xor_assoc x y y ∙ ap (bit_xor x) (xor_self y)
    ∙ xor_zero_r x in
    ap (λ (k : ℕ). k ∷ xor_of (xor_of xs ys) ys) byte
    ∙ ap (λ (t : List ℕ). x ∷ t) (xor_of-twice xs ys (omega arith))

-- If all pieces before the last are full blocks, block i of the concatenated pieces is piece i.
block_at-pieces_to : (piece : ℕ → List ℕ) (n : ℕ)
    → ((i : ℕ) → i < n → length (pieces_to piece i) ≡ 16 * i)
    → ((i : ℕ) → length (piece i) ≤ 16) → (i : ℕ) → i < n → block_at (pieces_to piece n) i ≡ piece i
block_at-pieces_to piece zero whole short i low = absurd (omega arith)
block_at-pieces_to piece (suc n) whole short i low =
    let before : List ℕ = pieces_to piece n in
    let size : length before ≡ 16 * n = whole n (omega arith) in
    ap (λ (text : List ℕ). block_at text i) (pieces_to-suc piece n)
    ∙ elim (cases_lt i n) [
      | inl lower ↦
          ap (take 16) (drop-append-le (16 * i) before (piece n) (omega arith))
          ∙ take-append-le 16 (drop (16 * i) before) (piece n)
          (omega (arith, length-drop (16 * i) before))
          ∙ block_at-pieces_to piece n (λ j h. whole j (omega arith)) short i lower
      | inr higher ↦
          let same : n ≡ i = omega arith in
          ap (take 16) (drop_at before (piece n) (16 * i) (omega arith))
          ∙ take_all 16 (piece n) (short n) ∙ ap piece same
    ]

-- If the pieces have the sizes of a list's blocks, block i of the concatenated pieces is piece i.
block_at-joined : (piece : ℕ → List ℕ) (text : List ℕ) → AreLikeBlocks piece text
    → (i : ℕ) → i < block_count text → block_at (pieces_to piece (block_count text)) i ≡ piece i
block_at-joined piece text like =
    block_at-pieces_to piece (block_count text)
    (λ i low. length-pieces_to piece text like i ∙ omega (arith, block_count-inside text i low))
    (λ i. omega (arith, like i, length-block_at text i))

-- Equal pieces have equal concatenations.
pieces_to-same : (f g : ℕ → List ℕ) (n : ℕ) → ((i : ℕ) → i < n → f i ≡ g i)
    → pieces_to f n ≡ pieces_to g n
pieces_to-same f g zero each = pieces_to-zero f ∙ sym (pieces_to-zero g)
pieces_to-same f g (suc n) each =
    pieces_to-suc f n ∙ ap (λ (xs : List ℕ). xs ++ f n)
    (pieces_to-same f g n (λ i h. each i (omega arith)))
    ∙ ap (λ (xs : List ℕ). pieces_to g n ++ xs) (each n (omega arith)) ∙ sym (pieces_to-suc g n)

-- The first n blocks of a list, concatenated, are the first bytes of the list.
pieces_to-block_at : (text : List ℕ) (n : ℕ) → pieces_to (block_at text) n ≡ take (16 * n) text
pieces_to-block_at text zero = pieces_to-zero (block_at text)
pieces_to-block_at text (suc n) =
    let more : 16 * n + 16 ≡ 16 * suc n = omega arith in
    pieces_to-suc (block_at text) n
    ∙ ap (λ (xs : List ℕ). xs ++ block_at text n) (pieces_to-block_at text n)
    ∙ sym (take-add (16 * n) 16 text) ∙ ap (λ (k : ℕ). take k text) more

-- if the pieces are the blocks of a list, their concatenation is the list
joined_again : (piece : ℕ → List ℕ) (text other : List ℕ) → length other ≡ length text
    → ((i : ℕ) → i < block_count text → piece i ≡ block_at text i)
    → pieces_to piece (block_count other) ≡ text
joined_again piece text other whole each =
    ap (λ (n : ℕ). pieces_to piece (n / 16 + min 1 (n % 16))) whole
    ∙ pieces_to-same piece (block_at text) (block_count text) each
    ∙ pieces_to-block_at text (block_count text)
    ∙ take_all (16 * block_count text) text (block_count-covers text)

-- ---- encryption

-- block C(i + 1) of the ciphertext is computed from C(i)
pub cipher_block_more : (key iv text : List ℕ) (i : ℕ) → cipher_block key iv text (i + 1)
    ≡ xor_of (block_at text i) (aes_of key (cipher_block key iv text i))
unfolding cipher_block
cipher_block_more key iv text i = rw (add-one i) refl

-- block C(0), before the ciphertext, is the IV
pub cipher_block_none : (key iv text : List ℕ) → cipher_block key iv text 0 ≡ iv
unfolding cipher_block
cipher_block_none key iv text = refl

-- piece i of a ciphertext: its block C(i + 1)
abbrev pub cipher_piece : (key iv text : List ℕ) → ℕ → List ℕ
cipher_piece key iv text i = cipher_block key iv text (i + 1)

-- If the blocks of a ciphertext, from block 0, are C(1), C(2) and so on, the block before block i
-- is C(i).
block_before-cipher : (key iv text cipher : List ℕ) (i : ℕ)
    → ((j : ℕ) → j < i → block_at cipher j ≡ cipher_block key iv text (j + 1))
    → block_before iv cipher i ≡ cipher_block key iv text i
block_before-cipher key iv text cipher zero each = sym (cipher_block_none key iv text)
block_before-cipher key iv text cipher (suc i) each =
    each i (omega arith) ∙ ap (cipher_block key iv text) (add-one i)

length-cipher_piece : (key iv text : List ℕ) → AreLikeBlocks (cipher_piece key iv text) text
length-cipher_piece key iv text i =
    ap length (cipher_block_more key iv text i)
    ∙ length-streamed key (cipher_block key iv text i) text i

-- a ciphertext is as long as its plaintext
pub length-cfb_encrypt_of : (key iv text : List ℕ)
    → length (cfb_encrypt_of key iv text) ≡ length text
unfolding pieces_to
length-cfb_encrypt_of key iv text =
    length-joined (cipher_piece key iv text) text (length-cipher_piece key iv text)

-- decryption undoes encryption
pub cfb_undone : (key iv text : List ℕ) → cfb_decrypt_of key iv (cfb_encrypt_of key iv text) ≡ text
unfolding pieces_to
cfb_undone key iv text =
    let cipher : List ℕ = cfb_encrypt_of key iv text in
    let at : (i : ℕ) → i < block_count text → block_at cipher i ≡ cipher_piece key iv text i =
    block_at-joined (cipher_piece key iv text) text (length-cipher_piece key iv text) in
    let each : (i : ℕ) → i < block_count text → plain_block key iv cipher i ≡ block_at text i =
    λ i low.
    let stream : List ℕ = aes_of key (cipher_block key iv text i) in
    ap (λ (b : List ℕ). xor_of b (aes_of key (block_before iv cipher i)))
    (at i low ∙ cipher_block_more key iv text i)
    ∙ ap (λ (b : List ℕ). xor_of (xor_of (block_at text i) stream) (aes_of key b))
    (block_before-cipher key iv text cipher i (λ j h. at j (omega arith)))
    ∙ xor_of-twice (block_at text i) stream
    (length-streamed key (cipher_block key iv text i) text i) in
    joined_again (plain_block key iv cipher) text cipher (length-cfb_encrypt_of key iv text) each

-- ---- decryption

length-plain_block : (key iv cipher : List ℕ) → AreLikeBlocks (plain_block key iv cipher) cipher
length-plain_block key iv cipher i = length-streamed key (block_before iv cipher i) cipher i

-- a decrypted plaintext is as long as its ciphertext
pub length-cfb_decrypt_of : (key iv cipher : List ℕ)
    → length (cfb_decrypt_of key iv cipher) ≡ length cipher
unfolding pieces_to
length-cfb_decrypt_of key iv cipher =
    length-joined (plain_block key iv cipher) cipher (length-plain_block key iv cipher)

-- If the blocks of a plaintext are the decrypted blocks of a ciphertext, encrypting them yields the
-- blocks of the ciphertext.
encrypted_again : (key iv cipher text : List ℕ) (n : ℕ)
    → ((i : ℕ) → i < n → block_at text i ≡ plain_block key iv cipher i)
    → (i : ℕ) → i ≤ n → cipher_block key iv text i ≡ block_before iv cipher i
encrypted_again key iv cipher text n at zero low = cipher_block_none key iv text
encrypted_again key iv cipher text n at (suc i) low =
    ap (cipher_block key iv text) (sym (add-one i)) ∙ cipher_block_more key iv text i
    ∙ ap (λ (b : List ℕ). xor_of b (aes_of key (cipher_block key iv text i))) (at i (omega arith))
    ∙ ap (λ (b : List ℕ). xor_of (plain_block key iv cipher i) (aes_of key b))
    (encrypted_again key iv cipher text n at i (omega arith))
    ∙ xor_of-twice (block_at cipher i) (aes_of key (block_before iv cipher i))
    (length-plain_block key iv cipher i)

-- encryption undoes decryption
pub cfb_redone : (key iv cipher : List ℕ) → cfb_encrypt_of key iv (cfb_decrypt_of key iv cipher)
    ≡ cipher
unfolding pieces_to
cfb_redone key iv cipher =
    let text : List ℕ = cfb_decrypt_of key iv cipher in
    let at : (i : ℕ) → i < block_count cipher → block_at text i ≡ plain_block key iv cipher i =
    block_at-joined (plain_block key iv cipher) cipher (length-plain_block key iv cipher) in
    let each : (i : ℕ) → i < block_count cipher → cipher_piece key iv text i ≡ block_at cipher i =
    λ i low.
    ap (cipher_block key iv text) (add-one i)
    ∙ encrypted_again key iv cipher text (block_count cipher) at (suc i) (omega arith) in
    joined_again (cipher_piece key iv text) cipher text (length-cfb_decrypt_of key iv cipher) each

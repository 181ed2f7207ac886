-- If the blocks of a list are replaced one after another, starting with the first, the result is
-- the concatenation of the replacements.
use Rattle.std.proofs.Common.{◌≡◌, ℕ, zero, suc, ◌+◌, ◌-◌, ◌*◌, ◌<◌, ◌≤◌, List, [], ◌∷◌, ◌++◌, add-one, add-zero, ap, append_assoc, arith, drop, length, length-append, length-drop, min, refl, sym, take, ◌∙◌, inl, inr}
use Rattle.std.proofs.lemmas.Bool.{cases_lt}
use Rattle.std.proofs.lemmas.Grind.{div_ceil_times, flat_map-append}
use Rattle.std.proofs.lemmas.List.{append-nil, drop-drop, drop_all, drop_at, length-take, length-take-le, take_at, take_min}
use Rattle.std.specs.List.{flat_map, range_with_len}
use Rattle.tpm_aes.specs.Cfb.{block_at, block_count}

-- A range of n + 1 numbers is the range of the first n numbers, followed by the last number.
range_with_len-suc : (a n : ℕ) → range_with_len a (suc n) ≡ range_with_len a n ++ (a + n) ∷ []
range_with_len-suc a zero = rw (add-zero a) refl
range_with_len-suc a (suc n) =
    let last : a + 1 + n ≡ a + suc n = omega arith in
    ap (λ (xs : List ℕ). a ∷ xs)
    (range_with_len-suc (a + 1) n ∙ ap (λ (k : ℕ). range_with_len (a + 1) n ++ k ∷ []) last)

-- the concatenation of the first n pieces
unfoldable pub pieces_to : (ℕ → List ℕ) → ℕ → List ℕ
pieces_to piece n = flat_map piece (range_with_len 0 n)

-- The concatenation of no pieces is empty.
pub pieces_to-zero : (piece : ℕ → List ℕ) → pieces_to piece 0 ≡ []
unfolding pieces_to
pieces_to-zero piece = refl

-- The first n + 1 pieces, concatenated, are the first n pieces followed by piece n.
pub pieces_to-suc : (piece : ℕ → List ℕ) (n : ℕ)
    → pieces_to piece (suc n) ≡ pieces_to piece n ++ piece n
unfolding pieces_to
pieces_to-suc piece n =
    let number : 0 + n ≡ n = omega arith in
    ap (flat_map piece) (range_with_len-suc 0 n)
    ∙ flat_map-append piece (range_with_len 0 n) ((0 + n) ∷ [])
    ∙ ap (λ (xs : List ℕ). pieces_to piece n ++ xs) (append-nil (piece (0 + n)) ∙ ap piece number)

-- Like `pieces_to-suc`, but with `n + 1` instead of `suc n`.
pub pieces_to-add-one : (piece : ℕ → List ℕ) (n : ℕ)
    → pieces_to piece (n + 1) ≡ pieces_to piece n ++ piece n
pieces_to-add-one piece n = ap (pieces_to piece) (add-one n) ∙ pieces_to-suc piece n

-- The blocks before block i are replaced by pieces of the same sizes.
pub record IsDoneTo (piece : ℕ → List ℕ) (old now : List ℕ) (i : ℕ) : Type 0 where
  pub size : length now ≡ length old
  pub value : now ≡ pieces_to piece i ++ drop (16 * i) old

-- Before the first block is replaced, the list is unchanged.
pub done_to_none : (piece : ℕ → List ℕ) (text : List ℕ) → IsDoneTo piece text text 0
done_to_none piece text =
    record { size = refl; value = rw (pieces_to-zero piece) refl }

length-done : (piece : ℕ → List ℕ) (old now : List ℕ) (i : ℕ) → IsDoneTo piece old now i
    → 16 * i ≤ length old
    → length (pieces_to piece i) ≡ 16 * i
length-done piece old now i done within =
    omega (arith, done.size, simp (length-append, length-drop) at (ap length done.value))

-- The bytes after the replaced blocks are unchanged.
rest_left : (piece : ℕ → List ℕ) (old now : List ℕ) (i start : ℕ) → IsDoneTo piece old now i
    → start ≡ 16 * i → start ≤ length old → drop start now ≡ drop (16 * i) old
rest_left piece old now i start done at within =
    ap (drop start) done.value
    ∙ drop_at (pieces_to piece i) (drop (16 * i) old) start
    (length-done piece old now i done (omega arith) ∙ sym at)

-- Removing block i from the bytes that start with it leaves the bytes that start with block i + 1.
drop_block : (old : List ℕ) (i size : ℕ) → 16 * i ≤ length old → size ≡ min 16 (length old - 16 * i)
    → drop size (drop (16 * i) old) ≡ drop (16 * (i + 1)) old
drop_block old i size within is_size =
    let whole : 16 * i + 16 ≡ 16 * (i + 1) = omega arith in
    elim (cases_lt size 16) [
      | inl short ↦
          drop_all size (drop (16 * i) old) (omega (arith, length-drop (16 * i) old))
          ∙ sym (drop_all (16 * (i + 1)) old (omega arith))
      | inr full ↦
          let sixteen : size ≡ 16 = omega arith in
          rw (sixteen, ← whole) (drop-drop 16 (16 * i) old)
    ]

-- The block that is replaced next is still unchanged.
pub block_left : (piece : ℕ → List ℕ) (old now : List ℕ) (i start end : ℕ)
    → IsDoneTo piece old now i
    → start ≡ 16 * i → start ≤ length old → end ≡ start + min 16 (length old - start)
    → take (end - start) (drop start now) ≡ block_at old i
block_left piece old now i start end done at within stop =
    let rest : List ℕ = drop (16 * i) old in
    let left : drop start now ≡ rest = rest_left piece old now i start done at within in
    let size : end - start ≡ min 16 (length rest) = omega (arith, length-drop (16 * i) old) in
    ap (take (end - start)) left ∙ ap (λ (k : ℕ). take k rest) size ∙ take_min 16 rest

-- If the first i blocks have been replaced, and block i is then replaced by its piece, the first i
-- + 1 blocks have been replaced.
pub done_to_more : (piece : ℕ → List ℕ) (old now new part : List ℕ) (i start end : ℕ)
    → IsDoneTo piece old now i
    → start ≡ 16 * i → start ≤ length old → end ≡ start + min 16 (length old - start)
    → part ≡ piece i → length part ≡ end - start
    → new ≡ take start now ++ (part ++ drop (end - start) (drop start now))
    → IsDoneTo piece old new (i + 1)
done_to_more piece old now new part i start end done at within stop is_piece size is_new =
    let count : end - start ≡ min 16 (length old - 16 * i) = omega arith in
    let front : take start now ≡ pieces_to piece i =
    ap (take start) done.value
    ∙ take_at (pieces_to piece i) (drop (16 * i) old) start
    (length-done piece old now i done (omega arith) ∙ sym at) in
    let rest : drop (end - start) (drop start now) ≡ drop (16 * (i + 1)) old =
    ap (drop (end - start)) (rest_left piece old now i start done at within)
    ∙ drop_block old i (end - start) (omega arith) count in
    record {
      size = omega (
        arith,
        done.size,
        length-take-le start now (omega (arith, done.size)),
        simp (length-append, length-drop) at (ap length is_new),
      );
      value = is_new
          ∙ ap (λ (xs : List ℕ). xs ++ (part ++ drop (end - start) (drop start now))) front
          ∙ ap (λ (xs : List ℕ). pieces_to piece i ++ (part ++ xs)) rest
          ∙ ap (λ (xs : List ℕ). pieces_to piece i ++ (xs ++ drop (16 * (i + 1)) old)) is_piece
          ∙ sym (append_assoc (pieces_to piece i) (piece i) (drop (16 * (i + 1)) old))
          ∙ ap (λ (xs : List ℕ). xs ++ drop (16 * (i + 1)) old) (sym (pieces_to-add-one piece i));
    }

-- if i is below the number of blocks, block i starts inside the list
pub block_count-inside : (text : List ℕ) (i : ℕ) → i < block_count text → 16 * i < length text
block_count-inside text i low = omega arith

-- A block is sixteen bytes long, or as long as the rest of the list if that is shorter.
pub length-block_at : (text : List ℕ) (i : ℕ)
    → length (block_at text i) ≡ min 16 (length text - 16 * i)
length-block_at text i = length-take 16 (drop (16 * i) text)
    ∙ ap (min 16) (length-drop (16 * i) text)

-- no byte of the list lies past its last block
pub block_count-covers : (text : List ℕ) → length text ≤ 16 * block_count text
block_count-covers text = omega (arith, (div_ceil_times (length text) 16 (omega arith)).0)

-- after the last block is replaced, the list is the concatenation of all pieces
pub done_to_all : (piece : ℕ → List ℕ) (old now : List ℕ) (i : ℕ) → IsDoneTo piece old now i
    → i ≡ block_count old → now ≡ pieces_to piece (block_count old)
done_to_all piece old now i done last =
    let none : drop (16 * i) old ≡ [] =
    drop_all (16 * i) old (omega (arith, block_count-covers old)) in
    done.value ∙ ap (λ (xs : List ℕ). pieces_to piece i ++ xs) none ∙ append-nil (pieces_to piece i)
    ∙ ap (pieces_to piece) last

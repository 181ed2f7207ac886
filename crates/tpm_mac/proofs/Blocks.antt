-- If the blocks of KDFa are written one after another, the output is the key that KDFa derives.
use Rattle.std.proofs.Common.{◌≡◌, ℕ, zero, suc, ◌+◌, ◌-◌, ◌*◌, ◌<◌, ◌≤◌, List, ◌∷◌, [], ◌++◌, add-one, ap, arith, drop, length, length-append, sym, take, ◌∙◌}
use Rattle.std.proofs.lemmas.Grind.{div_ceil_times, flat_map-append}
use Rattle.std.proofs.lemmas.List.{append-nil, take_all}
use Rattle.std.specs.Int.{div_ceil}
use Rattle.std.specs.List.{flat_map, range_with_len}
use Rattle.tpm_mac.proofs.DigestSize.{length-hmac_of}
use Rattle.tpm_mac.proofs.Filling.{range_with_len-suc, take-block_written}
use Rattle.tpm_mac.specs.Digest.{digest_size}
use Rattle.tpm_mac.specs.Hmac.{hmac_of}
use Rattle.tpm_mac.specs.Kdf.{kdfa_of, kdfa_text}
use Rattle.tpm_mac.specs.declared.algorithm.HashAlg.{HashAlg}
use Rattle.tpm_mac.specs.declared.algorithm.HashAlg.TheVariants.{Sha1, Sha256}

-- blocks 1 to n, concatenated. `piece i` is block i
abbrev pub pieces_to : (ℕ → List ℕ) → ℕ → List ℕ
pieces_to piece n = flat_map piece (range_with_len 1 n)

-- blocks 1 to n of KDFa, concatenated
abbrev pub blocks_to : HashAlg → (key label context_u context_v : List ℕ) (size n : ℕ) → List ℕ
blocks_to alg key label context_u context_v size n =
    pieces_to (λ i. hmac_of alg key (kdfa_text label context_u context_v (size * 8) i)) n

-- The first n + 1 blocks, concatenated, are the first n blocks followed by block n + 1.
pieces_to-suc : (piece : ℕ → List ℕ) (n : ℕ)
    → pieces_to piece (suc n) ≡ pieces_to piece n ++ piece (1 + n)
pieces_to-suc piece n =
    ap (flat_map piece) (range_with_len-suc 1 n)
    ∙ flat_map-append piece (range_with_len 1 n) ((1 + n) ∷ [])
    ∙ ap (λ (xs : List ℕ). pieces_to piece n ++ xs) (append-nil (piece (1 + n)))

-- n blocks of the same size, concatenated, are n times as long as one block
length-pieces_to : (piece : ℕ → List ℕ) (size : ℕ) → ((i : ℕ) → length (piece i) ≡ size)
    → (n : ℕ) → length (pieces_to piece n) ≡ n * size
length-pieces_to piece size each zero = omega arith
length-pieces_to piece size each (suc n) =
    rw (pieces_to-suc piece n, length-append, each (1 + n), length-pieces_to piece size each n)
    (omega arith)

-- if block n + 1 is written after the first n blocks, the list starts with the first n + 1 blocks
pub take-piece_written : (piece : ℕ → List ℕ) (size : ℕ) → ((i : ℕ) → length (piece i) ≡ size)
    → (old new block : List ℕ) (n : ℕ) → n * size ≤ length old
    → take (n * size) old ≡ take (length old) (pieces_to piece n)
    → block ≡ piece (n + 1)
    → new ≡ take (n * size) old ++ take (length old - n * size) block
    ++ drop (n * size + length block) old
    → take ((n + 1) * size) new ≡ take (length old) (pieces_to piece (n + 1))
take-piece_written piece size each old new block n fits so_far same after =
    let before : List ℕ = pieces_to piece n in
    let at : length before ≡ n * size = length-pieces_to piece size each n in
    let front : take (n * size) old ≡ before =
    so_far ∙ take_all (length old) before (omega arith) in
    let whole : length block ≡ size = ap length same ∙ each (n + 1) in
    let seam : (n + 1) * size ≡ length before + length block = omega arith in
    let last : pieces_to piece (n + 1) ≡ before ++ block =
    ap (pieces_to piece) (add-one n) ∙ pieces_to-suc piece n
    ∙ ap (λ (xs : List ℕ). before ++ xs) (ap piece (omega arith) ∙ sym same) in
    rw (seam, last, after, front, ← at) (take-block_written old before block (omega arith))

-- If block n + 1 of KDFa is written after the first n blocks, the output starts with the first n +
-- 1 blocks.
pub kdfa_block_written : (alg : HashAlg) (key label context_u context_v old new block : List ℕ)
    (size n : ℕ)
    → size ≡ digest_size alg → n * size ≤ length old
    → take (n * size) old ≡ take (length old)
    (blocks_to alg key label context_u context_v (length old) n)
    → block ≡ hmac_of alg key (kdfa_text label context_u context_v (length old * 8) (n + 1))
    → new ≡ take (n * size) old ++ take (length old - n * size) block
    ++ drop (n * size + length block) old
    → take ((n + 1) * size) new ≡ take (length old)
    (blocks_to alg key label context_u context_v (length old) (n + 1))
kdfa_block_written alg key label context_u context_v old new block size n sized fits so_far same
    after =
    let piece : ℕ → List ℕ =
    λ i. hmac_of alg key (kdfa_text label context_u context_v (length old * 8) i) in
    let each : (i : ℕ) → length (piece i) ≡ size = λ i. rw sized (length-hmac_of alg key _) in
    take-piece_written piece size each old new block n fits so_far same after

-- once the last block, which may be truncated, is written, the list is a prefix of the concatenated
-- blocks
last-piece_written : (piece : ℕ → List ℕ) (size count n : ℕ) (new : List ℕ)
    → length new ≤ count * size
    → n ≡ count - 1
    → take ((n + 1) * size) new ≡ take (length new) (pieces_to piece (n + 1))
    → new ≡ take (length new) (pieces_to piece count)
last-piece_written piece size zero n new room last so_far =
    let none : length new ≡ 0 = omega (arith, room) in
    rw none (sym (take_all 0 new (omega (arith, none))))
last-piece_written piece size (suc m) n new room last so_far =
    let at : n + 1 ≡ suc m = omega (arith, last) in
    let covers : length new ≤ (n + 1) * size = rw at room in
    sym (take_all ((n + 1) * size) new covers) ∙ so_far
    ∙ ap (λ (k : ℕ). take (length new) (pieces_to piece k)) at

-- every digest is at least one byte long
digest_size-positive : (alg : HashAlg) → 0 < digest_size alg
digest_size-positive Sha1 = omega arith
digest_size-positive Sha256 = omega arith

-- once the last block is written, the output is the key that KDFa derives
pub kdfa_written : (alg : HashAlg) (key label context_u context_v new : List ℕ) (size n : ℕ)
    → size ≡ digest_size alg → n ≡ div_ceil (length new) size - 1
    → take ((n + 1) * size) new ≡ take (length new)
    (blocks_to alg key label context_u context_v (length new) (n + 1))
    → new ≡ kdfa_of alg key label context_u context_v (length new)
unfolding kdfa_of
kdfa_written alg key label context_u context_v new size n sized last so_far =
    let piece : ℕ → List ℕ =
    λ i. hmac_of alg key (kdfa_text label context_u context_v (length new * 8) i) in
    let some : 0 < size = rw sized (digest_size-positive alg) in
    let room : length new ≤ div_ceil (length new) size * size =
    (div_ceil_times (length new) size some).0 in
    rw (← sized) (last-piece_written piece size (div_ceil (length new) size) n new room last so_far)

-- A state that absorbs bytes that fit into its block contains these bytes in its block. If they
-- fill the block, the block is compressed into the hash value.
use Rattle.std.proofs.Common.{◌≡◌, inl, inr, ℕ, suc, ◌+◌, ◌%◌, ◌^◌, ◌<◌, List, [], ◌∷◌, ◌++◌, length, take, drop, slice_set, append_assoc, refl, sym, ap, ◌∙◌, arith}
use Rattle.std.proofs.lemmas.Bool.Decides.{eqb_tells}
use Rattle.std.proofs.lemmas.List.{drop-drop, drop-set-lt, length-set, take-append-drop, take_more_set}
use Rattle.tpm_hash_state.specs.State.{byte_absorbed, state_after_bytes, value_after_block}
use Rattle.tpm_hash_state.specs.declared.chaining.ChainingValue.{ChainingValue}
use Rattle.tpm_hash_state.specs.declared.state.HashState.{HashState}
use borrow.Rule.Slice.PartMut.{put_mid}

-- ---- the block

-- the block with a piece written to it at an offset
abbrev pub block_with : (start : ℕ) → (piece block : List ℕ) → List ℕ
block_with start piece block = put_mid start (length piece) block piece

-- An empty piece leaves the block unchanged.
block_with-nil : (block : List ℕ) (start : ℕ) → block_with start [] block ≡ block
block_with-nil block start = take-append-drop start block

-- Writing a byte and then the bytes after it is the same as writing all of them at once.
block_with-cons : (block bytes : List ℕ) (start byte : ℕ) → start < length block
    → block_with (start + 1) bytes (slice_set block start byte)
    ≡ block_with start (byte ∷ bytes) block
block_with-cons block bytes start byte within =
    let size : ℕ = length bytes in
    let end : start + 1 + size ≡ start + suc size = omega arith in
    let rest : drop size (drop (start + 1) block) ≡ drop (suc size) (drop start block) =
    drop-drop size (start + 1) block ∙ ap (λ (k : ℕ). drop k block) end
    ∙ sym (drop-drop (suc size) start block) in
    rw (
      take_more_set block start byte within,
      drop-set-lt (start + 1) block start byte (omega arith),
      rest,
    )
    (append_assoc (take start block) (byte ∷ []) (bytes ++ drop (suc size) (drop start block)))

-- The offset of a byte in the block is the number of bytes before it, modulo 64. Writing a byte at
-- its offset, and then the bytes after it at the next offset, writes all of them at the first one.
block_with-next : (block bytes : List ℕ) (count byte : ℕ) → length block ≡ 64 → count < 2 ^ 64
    → count % 64 < 63
    → block_with ((count + 1) % 2 ^ 64 % 64) bytes (slice_set block (count % 64) byte)
    ≡ block_with (count % 64) (byte ∷ bytes) block
block_with-next block bytes count byte sized counted early =
    let at : (count + 1) % 2 ^ 64 % 64 ≡ count % 64 + 1 = omega arith in
    ap (λ (k : ℕ). block_with k bytes (slice_set block (count % 64) byte)) at
    ∙ block_with-cons block bytes (count % 64) byte (omega arith)

-- ---- the state

-- the state with these fields
abbrev pub state_of : ChainingValue → (block : List ℕ) → (count : ℕ) → HashState
state_of value block count = record { chaining = value; block = block; length = count }

-- A byte that does not fill the block leaves the hash value unchanged.
byte_short : (value : ChainingValue) (block : List ℕ) (count byte : ℕ) → count % 64 < 63
    → byte_absorbed (state_of value block count) byte
    ≡ state_of value (slice_set block (count % 64) byte) ((count + 1) % 2 ^ 64)
byte_short value block count byte early = elim (eqb_tells (count % 64) 63) [
  | inl last ↦ absurd (omega (arith, last.1))
  | inr before ↦ rw before.0 refl
]

-- A byte that fills the block compresses the block into the hash value.
byte_full : (value : ChainingValue) (block : List ℕ) (count byte : ℕ) → count % 64 ≡ 63
    → byte_absorbed (state_of value block count) byte
    ≡ state_of (value_after_block value (slice_set block (count % 64) byte))
    (slice_set block (count % 64) byte) ((count + 1) % 2 ^ 64)
byte_full value block count byte last = elim (eqb_tells (count % 64) 63) [
  | inl is ↦ rw is.0 refl
  | inr before ↦ absurd (before.1 last)
]

-- Absorbing bytes that do not fill the block writes them to the block, and leaves the hash value
-- unchanged.
pub absorbed_short : (piece : List ℕ) (value : ChainingValue) (block : List ℕ) (count : ℕ)
    → length block ≡ 64 → count < 2 ^ 64 → count % 64 + length piece < 64
    → state_after_bytes (state_of value block count) piece
    ≡ state_of value (block_with (count % 64) piece block) ((count + length piece) % 2 ^ 64)
unfolding state_after_bytes
absorbed_short [] value block count sized counted short =
    let same : (count + 0) % 2 ^ 64 ≡ count = omega arith in
    sym (λ i. state_of value (block_with-nil block (count % 64) i) (same i))
absorbed_short (byte ∷ bytes) value block count sized counted short =
    let next : ℕ = (count + 1) % 2 ^ 64 in
    let written : List ℕ = slice_set block (count % 64) byte in
    let size : length written ≡ 64 = length-set block (count % 64) byte ∙ sized in
    let blocks = block_with-next block bytes count byte sized counted (omega arith) in
    let counts : (next + length bytes) % 2 ^ 64 ≡ (count + suc (length bytes)) % 2 ^ 64 =
    omega arith in
    ap (λ (state : HashState). state_after_bytes state bytes)
    (byte_short value block count byte (omega arith))
    ∙ absorbed_short bytes value written next size (omega arith) (omega arith)
    ∙ (λ i. state_of value (blocks i) (counts i))

-- Absorbing bytes that fill the block writes them to the block, and compresses the block into the
-- hash value.
pub absorbed_full : (piece : List ℕ) (value : ChainingValue) (block : List ℕ) (count : ℕ)
    → length block ≡ 64 → count < 2 ^ 64 → count % 64 + length piece ≡ 64
    → state_after_bytes (state_of value block count) piece
    ≡ state_of (value_after_block value (block_with (count % 64) piece block))
    (block_with (count % 64) piece block) ((count + length piece) % 2 ^ 64)
unfolding state_after_bytes
absorbed_full [] value block count sized counted full = absurd (omega arith)
absorbed_full (byte ∷ []) value block count sized counted full =
    let start : ℕ = count % 64 in
    let written : slice_set block start byte ≡ block_with start (byte ∷ []) block =
    sym (block_with-nil (slice_set block start byte) (start + 1))
    ∙ block_with-cons block [] start byte (omega arith) in
    byte_full value block count byte (omega arith)
    ∙ (λ i. state_of (value_after_block value (written i)) (written i) ((count + 1) % 2 ^ 64))
absorbed_full (byte ∷ second ∷ bytes) value block count sized counted full =
    let rest : List ℕ = second ∷ bytes in
    let next : ℕ = (count + 1) % 2 ^ 64 in
    let written : List ℕ = slice_set block (count % 64) byte in
    let size : length written ≡ 64 = length-set block (count % 64) byte ∙ sized in
    let blocks = block_with-next block rest count byte sized counted (omega arith) in
    let counts : (next + length rest) % 2 ^ 64 ≡ (count + suc (length rest)) % 2 ^ 64 =
    omega arith in
    ap (λ (state : HashState). state_after_bytes state rest)
    (byte_short value block count byte (omega arith))
    ∙ absorbed_full (second ∷ bytes) value written next size (omega arith) (omega arith)
    ∙ (λ i. state_of (value_after_block value (blocks i)) (blocks i) (counts i))

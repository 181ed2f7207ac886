use Rattle.std.proofs.Common.{◌≡◌, ◌∙◌, ◌+◌, ◌-◌, ◌%◌, ◌^◌, List, ℕ, ap, arith, length, rules, sym}
use Rattle.tpm_hash_state.proofs.Pieces.{absorbed_full, absorbed_short, block_with, state_of}
use Rattle.tpm_hash_state.specs.State.{value_after_block}
use Rattle.tpm_hash_state.proofs.state.HashState.absorb_piece.Goals as goal
use borrow.Rule.Slice.PartMut.{put_mid}

-- The bytes at the offsets from start to end are overwritten by a copy of the piece.
copied : (block piece copy : List ℕ) (start : ℕ) → copy ≡ piece
    → put_mid start (start + length piece - start) block copy ≡ block_with start piece block
copied block piece copy start same =
    let size : start + length piece - start ≡ length piece = omega arith in
    λ i. put_mid start (size i) block (same i)

pub returns-then-end-eq-BLOCK_SIZE : goal.returns-then-end-eq-BLOCK_SIZE
returns-then-end-eq-BLOCK_SIZE c =
    let state = c.args.self.now in
    let piece = c.args.piece.now in
    let start = state.length % 64 in
    let sized : length state.block ≡ 64 = search rules in
    let block = copied state.block piece _ start c.copy_from_slice.ensures.after in
    let value = c.compress.ensures ∙ ap (value_after_block state.chaining) block in
    (λ i. state_of (value i) (block i) ((state.length + length piece) % 2 ^ 64))
    ∙ sym (absorbed_full piece state.chaining state.block state.length sized (omega arith)
    c.if-end-eq-BLOCK_SIZE.true)

pub returns-else-end-eq-BLOCK_SIZE : goal.returns-else-end-eq-BLOCK_SIZE
returns-else-end-eq-BLOCK_SIZE c =
    let state = c.args.self.now in
    let piece = c.args.piece.now in
    let start = state.length % 64 in
    let sized : length state.block ≡ 64 = search rules in
    let block = copied state.block piece _ start c.copy_from_slice.ensures.after in
    (λ i. state_of state.chaining (block i) ((state.length + length piece) % 2 ^ 64))
    ∙ sym (absorbed_short piece state.chaining state.block state.length sized (omega arith)
    (omega arith))

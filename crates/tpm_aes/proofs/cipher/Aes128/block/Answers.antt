use Rattle.std.proofs.Common.{◌≡◌, ℕ, List, ◌+◌, ◌-◌, ◌∙◌, ap, ap₂, arith, rules, sym}
use Rattle.tpm_aes.proofs.Steps.{round_key_at, state_after_more, state_after_none}
use Rattle.tpm_aes.proofs.cipher.Aes128.block.Goals as goal
use Rattle.tpm_aes.specs.Cipher.{aes_of, mix_columns, shift_rows, state_after, sub_bytes, xor_of}

pub loop-round-init : goal.loop-round-init
loop-round-init c =
    let key = round_key_at c.self.inside.round_keys c.args.self.now (search rules)
    c.self.view_is c.self.invariant 0 (omega arith) in
    c.add_round_key-state.ensures ∙ ap₂ xor_of c.words_of.ensures key
    ∙ sym (state_after_none c.args.self.now c.args.block.now)

pub loop-round-preserved : goal.loop-round-preserved
loop-round-preserved c =
    let n : ℕ = c.loop-round.round in
    let key = round_key_at c.self.inside.round_keys c.args.self.now (search rules)
    c.self.view_is c.self.invariant n (omega arith) in
    let here : n - 1 + 1 ≡ n = omega arith in
    let next : n + 1 - 1 ≡ n = omega arith in
    let more = rw here at (state_after_more c.args.self.now c.args.block.now (n - 1)) in
    let mixed = c.mixed_state.ensures
    ∙ ap (λ (state : List ℕ). mix_columns (shift_rows (sub_bytes state))) c.loop-round.invariant in
    rw next (c.add_round_key-state-in-loop-round.ensures ∙ ap₂ xor_of mixed key ∙ sym more)

pub returns : goal.returns
unfolding aes_of
returns c =
    let key = round_key_at c.self.inside.round_keys c.args.self.now (search rules)
    c.self.view_is c.self.invariant 10 (omega arith) in
    let nine : c.loop-round.round - 1 ≡ 9 = omega arith in
    let state = c.loop-round.invariant ∙ ap (state_after c.args.self.now c.args.block.now) nine in
    let shifted = c.shifted_state.ensures ∙ ap (λ (s : List ℕ). shift_rows (sub_bytes s)) state in
    c.block_of.ensures ∙ c.add_round_key.ensures ∙ ap₂ xor_of shifted key

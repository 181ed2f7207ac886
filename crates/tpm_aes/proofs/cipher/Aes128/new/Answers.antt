use Rattle.std.proofs.Common.{◌≡◌, ◌∙◌, arith, length-set, refl, sym}
use Rattle.tpm_aes.proofs.Steps.{expanded_key_from, round_key_first, round_keys_more}
use Rattle.tpm_aes.proofs.cipher.Aes128.new.Goals as goal

pub loop-round-init : goal.loop-round-init
loop-round-init c = record {
  size = refl;
  each = λ k low.
      let first : k ≡ 0 = omega arith in
      rw first (c.words_of-round_keys.ensures ∙ sym (round_key_first c.args.key.now));
}

pub loop-round-preserved : goal.loop-round-preserved
loop-round-preserved c =
    let so_far = c.loop-round.invariant in
    record {
      size = simp length-set so_far.size;
      each = round_keys_more c.loop-round.round_keys c.args.key.now c.next_round_key.result
          c.loop-round.round
          (omega arith) (omega arith) so_far.each c.next_round_key.ensures;
    }

pub invariant_of-result : goal.invariant_of-result
invariant_of-result c =
    expanded_key_from c.loop-round.round_keys c.args.key.now c.loop-round.invariant.size
    (λ k low. c.loop-round.invariant.each k (omega arith))

pub returns : goal.returns
returns c = c.loop-round.invariant.each 0 (omega arith) ∙ round_key_first c.args.key.now

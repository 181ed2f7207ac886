use Rattle.std.proofs.Common.{◌≡◌, ◌+◌, ◌-◌, ◌*◌, ◌≤◌, arith, length}
use Rattle.std.proofs.lemmas.Grind.{common_steps}
use Rattle.std.specs.Int.{div_ceil}
use Rattle.tpm_mac.proofs.Blocks.{kdfa_block_written, kdfa_written}
use Rattle.tpm_mac.proofs.derivation.kdfa.Goals as goal
use Rattle.tpm_mac.specs.Hmac.{hmac_of}
use Rattle.tpm_mac.specs.Kdf.{kdfa_text}

pub loop-index-preserved : goal.loop-index-preserved
loop-index-preserved c =
    let fits : c.loop-index.index * c.size-size.result ≤ length c.loop-index.out =
    grind (arith, common_steps) in
    let taken = c.take_text.ensures c.args.alg c.args.key.now
    (rw c.copy-copy.ensures c.take_key.ensures) in
    let derived = c.finish.ensures.value _ _ _ taken in
    let block : c.as_slice.result.now ≡ hmac_of c.args.alg c.args.key.now
    (kdfa_text c.args.label.now c.args.context_u.now c.args.context_v.now
    (length c.loop-index.out * 8) (c.loop-index.index + 1)) = cc in
    let same : length c.write_front.new.out ≡ length c.loop-index.out = c.write_front.auto.out in
    rw same (kdfa_block_written c.args.alg c.args.key.now c.args.label.now c.args.context_u.now
    c.args.context_v.now
    c.loop-index.out c.write_front.new.out c.as_slice.result.now c.size-size.result
    c.loop-index.index
    c.size-size.ensures fits c.loop-index.invariant block c.write_front.ensures)

pub returns : goal.returns
returns c =
    let last : c.loop-index.index ≡ c.saturating_sub-last.result = grind (arith, common_steps) in
    let fits : c.saturating_sub-last.result * c.size-size.result ≤ length c.loop-index.out =
    grind (arith, common_steps) in
    let taken = c.take_text-2.ensures c.args.alg c.args.key.now c.take_key.ensures in
    let derived = c.finish-2.ensures.value _ _ _ taken in
    let block : c.as_slice-2.result.now ≡ hmac_of c.args.alg c.args.key.now
    (kdfa_text c.args.label.now c.args.context_u.now c.args.context_v.now
    (length c.loop-index.out * 8) (c.saturating_sub-last.result + 1)) = cc in
    let same : length c.write_front-2.new.out ≡ length c.loop-index.out =
    c.write_front-2.auto.out in
    let start : length c.loop-index.out ≡ length c.args.out.now = c.loop-index.auto.out in
    let blocks : c.saturating_sub-last.result
    ≡ div_ceil (length c.write_front-2.new.out) c.size-size.result - 1 =
    rw (same, start, ← c.div_ceil.ensures) c.saturating_sub-last.ensures in
    let so_far = kdfa_block_written c.args.alg c.args.key.now c.args.label.now c.args.context_u.now
    c.args.context_v.now
    c.loop-index.out c.write_front-2.new.out c.as_slice-2.result.now c.size-size.result
    c.saturating_sub-last.result
    c.size-size.ensures fits (rw (← last) c.loop-index.invariant) block c.write_front-2.ensures in
    rw (← start, ← same)
    (kdfa_written c.args.alg c.args.key.now c.args.label.now c.args.context_u.now
    c.args.context_v.now
    c.write_front-2.new.out c.size-size.result c.saturating_sub-last.result c.size-size.ensures
    blocks (rw same so_far))

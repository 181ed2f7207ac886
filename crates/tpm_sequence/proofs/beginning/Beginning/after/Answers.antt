use Rattle.std.proofs.Common.{ap, arith, refl, slice_index, sym, ◌∙◌}
use Rattle.tpm_sequence.proofs.BeginningLaws.{beginning_more, decided_early}
use Rattle.tpm_sequence.proofs.beginning.Beginning.after.Goals as goal
use Rattle.tpm_sequence.specs.Beginning.{beginning_after, byte_after, is_decided}
use Rattle.tpm_sequence.specs.declared.beginning.Beginning as declared

pub loop-byte-init : goal.loop-byte-init
unfolding beginning_after
loop-byte-init c = refl

pub loop-byte-preserved : goal.loop-byte-preserved
loop-byte-preserved c =
    let i = c.loop-byte.byte-index in
    let bytes = c.args.bytes.now in
    c.after_byte-beginning.ensures
    ∙ ap (λ (beginning : declared.Beginning). byte_after beginning (slice_index bytes i))
    c.loop-byte.invariant
    ∙ sym (beginning_more c.args.self bytes i (omega arith))

pub returns-then-is_decided : goal.returns-then-is_decided
returns-then-is_decided c =
    let is = ap is_decided (sym c.loop-byte.invariant) ∙ sym c.is_decided.ensures
    ∙ c.if-is_decided.true in
    c.loop-byte.invariant ∙ decided_early c.args.self c.args.bytes.now c.loop-byte.byte-index is

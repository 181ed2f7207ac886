use Rattle.std.proofs.Common.{arith}
use Rattle.hex.specs.Hex.{lower_digits}
use Rattle.hex.proofs.Pairs.{encode_done, encode_step}
use Rattle.tpm_hex.proofs.encode.Goals as goal

pub loop-place-preserved : goal.loop-place-preserved
loop-place-preserved c =
    encode_step lower_digits c.args.bytes.now c.loop-place.digits c.loop-place.place _ _
    (omega arith) (omega arith) c.digit_of.ensures c.digit_of-in-loop-place.ensures
    c.loop-place.invariant

pub returns : goal.returns
returns c = encode_done lower_digits _ _ c.loop-place.place (omega arith) (omega arith)
    c.loop-place.invariant

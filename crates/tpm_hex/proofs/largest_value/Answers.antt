use Rattle.std.proofs.Common.{arith}
use Rattle.hex.proofs.Pairs.{decode_done}
use Rattle.tpm_hex.proofs.Reading.{pair_read}
use Rattle.tpm_hex.proofs.largest_value.Goals as goal

pub loop-place-preserved : goal.loop-place-preserved
loop-place-preserved c =
    pair_read _ _ _ c.loop-place.place c.value_of-high.result c.value_of-low.result
    c.max-largest.result
    (omega arith) (omega arith) c.value_of-high.ensures c.value_of-low.ensures (omega arith)
    c.loop-place.invariant

pub returns : goal.returns
returns c = (
  λ small. decode_done _ _ c.loop-place.place (omega arith) (omega arith)
      (c.loop-place.invariant.0 small),
  c.loop-place.invariant.1,
)

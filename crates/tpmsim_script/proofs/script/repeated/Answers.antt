use Rattle.std.proofs.Common.{arith}
use Rattle.tpmsim_script.proofs.Repeating.{repeated_is}
use Rattle.tpmsim_script.proofs.script.repeated.Goals as goal

pub returns : goal.returns
returns c = repeated_is c.loop-place.random c.args.entropy.now c.loop-place.invariant.0
    (λ k l. c.loop-place.invariant.1 k (omega arith))

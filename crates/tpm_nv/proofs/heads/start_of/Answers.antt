use Rattle.std.proofs.Common.{arith}
use Rattle.tpm_nv.proofs.Cuts.{start_fits}
use Rattle.tpm_nv.proofs.heads.start_of.Goals as goal

pub overflow_add-start : goal.overflow_add-start
overflow_add-start c =
    let fits = start_fits c.args.heads.now c.args.key in
    omega (arith, fits, c.requires, c.loop-other.invariant)

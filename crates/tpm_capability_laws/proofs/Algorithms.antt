-- Both lists of algorithms are the same.
use Rattle.std.proofs.Common.{refl}
use Rattle.tpm_capability_laws.specs.Algorithms.{AlgorithmsAgree}

pub algorithms_agree : AlgorithmsAgree
algorithms_agree = refl

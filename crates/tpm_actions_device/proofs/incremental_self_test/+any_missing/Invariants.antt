use Rattle.std.specs.Prelude.{length}
use Rattle.tpm_actions_device.proofs.incremental_self_test.+any_missing.Given as goal

abbrev pub decreases-any_missing : goal.decreases-any_missing
decreases-any_missing l = length l.algorithms.now

use Rattle.std.proofs.Common.{length}
use Rattle.tpm_machine.proofs.parameters.+pass_parameters.Given as goal

abbrev pub decreases-pass_parameters : goal.decreases-pass_parameters
decreases-pass_parameters g l = length l.entries.now

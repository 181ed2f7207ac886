use Rattle.std.proofs.Common.{length}
use Rattle.tpm_help.proofs.form.+put_parameters.Given as goal

abbrev pub decreases-put_parameters : goal.decreases-put_parameters
decreases-put_parameters l = length l.kinds.now

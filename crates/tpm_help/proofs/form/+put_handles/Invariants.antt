use Rattle.std.proofs.Common.{length}
use Rattle.tpm_help.proofs.form.+put_handles.Given as goal

abbrev pub decreases-put_handles : goal.decreases-put_handles
decreases-put_handles l = length l.rules.now

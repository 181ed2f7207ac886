use Rattle.std.proofs.Common.{length}
use Rattle.tpm_machine.proofs.entries.+end_entries.Given as goal

abbrev pub decreases-end_entries : goal.decreases-end_entries
decreases-end_entries g l = length l.entries.now

use Rattle.std.proofs.Common.{length}
use Rattle.tpm_machine.proofs.entries.+answer_entries.Given as goal

abbrev pub decreases-answer_entries : goal.decreases-answer_entries
decreases-answer_entries g l = length l.entries.now

use Rattle.std.proofs.Common.{rules}
use Rattle.tpm_machine.proofs.Histories.{new_follows}
use Rattle.tpm_machine.proofs.machine.Machine.manufacture_as.Goals as goal

pub returns-clause-history : goal.returns-clause-history
returns-clause-history g c =
    new_follows (g.K.Keep.record_of c.from_keep.result.keep) c.args.profile c.args.random.now (search rules)

use Rattle.std.specs.Prelude.{◌||◌}
use Rattle.tpm_snapshot.proofs.Restoring.{has_follows, into_again}
use Rattle.tpm_snapshot.proofs.snapshot.restore_into.Goals as goal

pub returns-clause-history : goal.returns-clause-history
returns-clause-history g c = λ state history is follows same.
    let can = g.K.Keep.empty_can_refuse || g.K.Keep.can_refuse in
    let old = g.K.Keep.record_of c.args.machine.now.keep in
    let device = g.K.Keep.record_of c.replace.new.machine.keep in
    has_follows can device state history c.replace.result
    (into_again can old device state c.args.text.now c.replace.result c.replace.ensures is same)
    follows

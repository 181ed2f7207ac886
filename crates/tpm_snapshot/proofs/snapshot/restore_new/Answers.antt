use Rattle.tpm_snapshot.proofs.Restoring.{has_follows, new_again}
use Rattle.tpm_snapshot.proofs.snapshot.restore_new.Goals as goal

pub returns-clause-history : goal.returns-clause-history
returns-clause-history g c = λ state history is follows same.
    let device = g.K.Keep.record_of c.fill.new.machine.keep in
    has_follows g.K.Keep.can_refuse device state history c.fill.result
    (new_again g.K.Keep.can_refuse device state c.args.text.now c.fill.result c.fill.ensures is
    same) follows

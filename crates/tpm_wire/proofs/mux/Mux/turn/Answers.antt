use Rattle.tpm_wire.specs.Number.{number_of}
use Rattle.tpm_wire.specs.Wire.{wire_of}
use Rattle.tpm_wire.proofs.Histories.{turn_follows}
use Rattle.tpm_wire.proofs.mux.Mux.turn.Goals as goal

pub returns-clause-history : goal.returns-clause-history
returns-clause-history g c =
    let wire = wire_of g.K.Keep.record_of in
    turn_follows g.K.Keep.can_refuse (wire c.args.self.now) (number_of c.args.connection)
    c.args.host c.take_turn.result (wire c.take_turn.new.self) c.take_turn.ensures

use Rattle.std.proofs.Common.{ap}
use Rattle.tpm_machine.specs.State.{state_of}
use Rattle.tpm_step.specs.step.Step.{outcome_step}
use Rattle.tpmsim_script.specs.Player.{playing_of}
use Rattle.tpmsim_script.proofs.Doing.{cycled}
use Rattle.tpmsim_script.proofs.player.Player.cycle_power.Goals as goal

pub trace-requires : goal.trace-requires
trace-requires g c = c.traceable_laws.ensures _ _ _ _ c.execute_into.ensures.executes

pub returns-clause-did : goal.returns-clause-did
returns-clause-did g c = λ cannot.
    let record_of = g.K.Keep.record_of in
    let device = state_of record_of c.execute_into.new.self in
    cycled (playing_of record_of c.args.self.now) (outcome_step device c.execute_into.new.outcome) _
    _ _ _ (c.execute_into.ensures.executes.exactly cannot)
    c.trace.ensures.printed c.trace.ensures.cut_off (ap (playing_of record_of) c.trace.ensures.kept)
    c.trace.ensures.fault

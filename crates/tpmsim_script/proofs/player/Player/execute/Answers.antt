use Rattle.std.proofs.Common.{rules, ap, sym, subst, ◌∙◌}
use Rattle.tpm_record.specs.Record.{Record}
use Rattle.tpm_machine.specs.State.{state_of}
use Rattle.tpm_step.specs.step.Step.{outcome_step}
use Rattle.tpmsim_script.specs.Script.{Playing, script_playing}
use Rattle.tpmsim_script.specs.Player.{playing_of}
use Rattle.tpmsim_script.proofs.Doing.{executed, told_then, told_unwritten, untraced}
use Rattle.tpmsim_script.proofs.player.Player.execute.Goals as goal

pub trace-requires : goal.trace-requires
trace-requires g c = c.traceable_laws.ensures _ _ _ _ c.execute_into.ensures.executes

pub returns-clause-did : goal.returns-clause-did
returns-clause-did g c = λ cannot.
    let record_of = g.K.Keep.record_of in
    let before = c.args.self.now in
    let device = state_of record_of c.execute_into.new.self in
    let is = rw c.command-event.ensures.event at (c.execute_into.ensures.executes.exactly cannot) in
    let traced = rw c.command-event.ensures.event at c.in_ok-trace.ensures.printed in
    executed (playing_of record_of before) c.args.buffer.now
    (outcome_step device c.execute_into.new.outcome) _ _ _ _ _ is traced (search rules)
    (search rules)
    (ap (playing_of record_of) c.trace.ensures.kept
    ∙ ap (λ script. script_playing before.traced script device) c.command-event.ensures.time)
    (search rules)

pub returns-in_err-trace-clause-did : goal.returns-in_err-trace-clause-did
returns-in_err-trace-clause-did g c = λ cannot.
    let record_of = g.K.Keep.record_of in
    let before = c.args.self.now in
    let device = state_of record_of c.execute_into.new.self in
    let is = rw c.command-event.ensures.event at (c.execute_into.ensures.executes.exactly cannot) in
    untraced (playing_of record_of before) c.args.buffer.now
    (outcome_step device c.execute_into.new.outcome) _ _ _ _ is (search rules)
    (ap (playing_of record_of) c.trace.ensures.kept
    ∙ ap (λ script. script_playing before.traced script device) c.command-event.ensures.time)
    (search rules)

pub returns-in_err-trace-clause-told : goal.returns-in_err-trace-clause-told
returns-in_err-trace-clause-told g c =
    let record_of = g.K.Keep.record_of in
    let device = ap (λ (p : Playing). p.device) (ap (playing_of record_of) c.trace.ensures.kept) in
    let told =
    subst (λ (d : Record). g.S.Saver.saves_change c.args.saver.now d c.save_change.new.self)
    (sym device) c.in-Ok.ensures.told in
    told_unwritten
    (g.S.Saver.saves_change c.args.saver.now (playing_of record_of c.trace.new.self).device)
    c.args.saver.now c.from_residual.result c.save_change.new.self (search rules) told

pub returns-clause-told : goal.returns-clause-told
returns-clause-told g c =
    let record_of = g.K.Keep.record_of in
    let device = ap (λ (p : Playing). p.device) (ap (playing_of record_of) c.trace.ensures.kept) in
    let told =
    subst (λ (d : Record). g.S.Saver.saves_change c.args.saver.now d c.save_change.new.self)
    (sym device) c.in-Ok.ensures.told in
    told_then (g.S.Saver.saves_change c.args.saver.now
    (playing_of record_of c.trace.new.self).device) c.args.saver.now c.map_err.result
    c.save_change.new.self (search rules) told

use Rattle.std.proofs.Common.{drop, map}
use denote.Param.Always.{always_mut}
use Rattle.tpm_record.specs.Record.{Record}
use Rattle.tpm_step.specs.step.Events.{plain_event}
use Rattle.tpm_step.specs.step.Run.{Runs}
use Rattle.tpm_machine.proofs.machine.Machine.execute_all.Given as goal

-- If a run executes the remaining events from the current state, then a run executes all events
-- from the initial state.
abbrev pub invariant-loop-event : goal.invariant-loop-event
invariant-loop-event g l =
    let record_of = g.K.Keep.record_of in
    let can = g.K.Keep.can_refuse in
    record {
      callable : always_mut g.F.FnMut l.tell;
      joined : (new : Record) (q : _)
          → Runs g.F.FnMut can (record_of l.self.keep) l.tell
          (map plain_event (drop l.event-index l.events)) new q
          → Runs g.F.FnMut can (record_of l.fn.self.keep) l.fn.tell (map plain_event l.fn.events)
          new q;
    }

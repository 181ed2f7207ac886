use Rattle.std.proofs.Common.{rules, of_calls}
use Rattle.tpm_machine.proofs.Running.{run_more}
use Rattle.tpm_machine.proofs.machine.Machine.execute_all.Goals as goal

pub loop-event-preserved : goal.loop-event-preserved
loop-event-preserved g c = record {
  callable = search (rules, of_calls);
  joined = λ new q rest. c.loop-event.invariant.joined new q
      (run_more _ _ _ _ _ _ c.loop-event.event-index c.event-item.result _ c.loop-event-test.true
      c.event-item.is c.execute_into.ensures.executes (search rules) rest);
}

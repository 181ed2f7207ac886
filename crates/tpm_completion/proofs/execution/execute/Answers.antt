use Rattle.tpm_step.specs.step.Events.{plain_event}
use Rattle.tpm_completion.specs.Execution.{seen_of}
use Rattle.tpm_completion.proofs.Exactly.{completes_by_cases, exactly}
use Rattle.tpm_completion.proofs.execution.execute.Goals as goal

pub returns-clause-executes : goal.returns-clause-executes
returns-clause-executes g c =
    completes_by_cases g.K.Keep.can_refuse c.args.completes c.args.layer.now
    (g.K.Keep.record_of c.args.machine.now.keep) (plain_event c.args.event.now)
    (seen_of g.K.Keep.record_of c.complete_if.new.machine c.complete_if.new.layer
    c.complete_if.new.outcome) c.complete_if.ensures.off c.complete_if.ensures.on

pub returns-clause-exactly : goal.returns-clause-exactly
returns-clause-exactly g c =
    exactly g.K.Keep.can_refuse c.args.completes c.args.layer.now
    (g.K.Keep.record_of c.args.machine.now.keep) (plain_event c.args.event.now)
    (seen_of g.K.Keep.record_of c.complete_if.new.machine c.complete_if.new.layer
    c.complete_if.new.outcome) (returns-clause-executes g c)

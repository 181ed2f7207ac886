use Rattle.tpm_step.specs.step.Events.{plain_event}
use Rattle.tpm_machine.specs.State.{state_of}
use Rattle.tpm_machine.proofs.Histories.{follows_on}
use Rattle.tpm_machine.proofs.Modesty.{accepts_modestly}
use Rattle.tpm_machine.proofs.Refusals.{steps_harmless}
use Rattle.tpm_machine.proofs.Running.{exactly}
use Rattle.tpm_step.specs.step.Execution.{Executes}
use Rattle.tpm_step.specs.step.Step.{Stepped}
use Rattle.tpm_machine.proofs.machine.Machine.execute_into.Goals as goal

pub returns : goal.returns
returns g c =
    let state = state_of g.K.Keep.record_of in
    let can = g.K.Keep.can_refuse in
    let old = state c.args.self.now in
    let event = plain_event c.args.event.now in
    let done = c.advance-outcome in
    let x : Stepped = record {
      response = done.new.text.items;
      row = done.result;
      after =
          state done.new.self;
    } in
    let steps = done.ensures.steps in
    let executes : Executes can old event x = record {
      happens = done.ensures.event;
      steps = steps;
      exactly = λ cannot. exactly can old event x cannot steps;
      is_record = c.read_widths.ensures;
      harmless = steps_harmless can old event x steps;
      modest = λ zero. accepts_modestly can old event x steps zero (done.ensures.modest zero);
      fits = done.ensures.fits;
    } in
    record {
      executes = executes;
      drawn = done.ensures.drawn;
      follows =
          follows_on can old event x executes;
    }

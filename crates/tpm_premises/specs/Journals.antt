-- An example of a command that a device executed, and its entry in a journal.
use Rattle.std.specs.Prelude.{false, [], ◌∷◌}
use Rattle.tpm_completion.specs.Completion.{forgotten, new_completion}
use Rattle.tpm_completion.specs.Execution.{Seen}
use Rattle.tpm_machine.specs.Drawn.{drawn_by}
use Rattle.tpm_step.specs.history.FailedRun.{tried_device, wrong_after, wrong_read, zeros}
use Rattle.tpm_step.specs.step.Step.{Stepped, step}
use Rattle.tpm_journal.specs.Command.{Command, entry_of}
use Rattle.tpm_journal.specs.Living.{Lives}

-- TPM2_NV_Read with a wrong password, without the completing layer
abbrev pub given_command : Command
given_command = record {
  buffer = wrong_read;
  locality = 0;
  elapsed = 0;
  completes = false;
  random = zeros;
}

-- the step of `given_command` on a device on which the index exists
abbrev pub refusal_step : Stepped
refusal_step = step (tried_device 0 0 0) (wrong_after 0)

-- the effect of `given_command` on that device
abbrev pub effect : Seen
effect = record {
  step = refusal_step;
  layer = forgotten refusal_step.after (new_completion 0);
  drawn = drawn_by (tried_device 0 0 0) (wrong_after 0) refusal_step.row.check;
}

-- A device executed `given_command`, and its journal contains the command's entry.
abbrev pub HasOneEntry : Type 0
HasOneEntry =
    Lives (new_completion 0) (tried_device 0 0 0) (entry_of given_command effect ∷ []) effect.layer
    refusal_step.after

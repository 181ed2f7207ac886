-- Wrong guesses reveal nothing. If recoveryTime is not 0 and nothing resets failedTries, the number
-- of failed tries is limited.
use Rattle.std.specs.Prelude.{true}
use Rattle.tpm_step.proofs.history.FewTries.{fails_within}
use Rattle.tpm_secrecy.proofs.Data.{covers}
use Rattle.tpm_secrecy.proofs.Stepping.{run_of_wrong_guesses_tells_nothing}
use Rattle.tpm_secrecy.specs.Tells.{WrongTriesAreFew, after_all, executions_of}

pub wrong_guesses_are_few : WrongTriesAreFew
wrong_guesses_are_few s covers one other events others differ alike keeps also forgiving counts
    leads quiet = (
      run_of_wrong_guesses_tells_nothing s covers one other events others differ alike keeps also,
      fails_within true one (executions_of one events) (after_all one events) forgiving leads quiet
          counts,
    )

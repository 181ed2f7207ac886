use Rattle.tpm_secrecy.proofs.FewGuesses.{wrong_guesses_are_few}
use Rattle.tpm_secrecy.proofs.Stepping.{run_of_wrong_guesses_tells_nothing, wrong_guesses_tell_nothing}
use Rattle.tpm_secrecy.proofs.guess_laws.Goals as goal

pub returns-clause-event : goal.returns-clause-event
returns-clause-event c = wrong_guesses_tell_nothing

pub returns-clause-run : goal.returns-clause-run
returns-clause-run c = run_of_wrong_guesses_tells_nothing

pub returns-clause-few : goal.returns-clause-few
returns-clause-few c = wrong_guesses_are_few

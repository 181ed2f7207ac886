use Rattle.tpm_premises.proofs.Guesses.{has_wrong_guess}
use Rattle.tpm_premises.proofs.guess_premise.Goals as goal

pub returns : goal.returns
returns c = has_wrong_guess

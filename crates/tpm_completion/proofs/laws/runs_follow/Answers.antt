use Rattle.tpm_completion.proofs.Runs.{runs_follow}
use Rattle.tpm_completion.proofs.laws.runs_follow.Goals as goal

pub returns : goal.returns
returns c = runs_follow

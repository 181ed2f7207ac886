use Rattle.tpm_step.proofs.history.FewTries.{fails_few, fails_within, one_more}
use Rattle.tpm_step.proofs.history.few_tries_laws.Goals as goal

pub returns-clause-sharply : goal.returns-clause-sharply
returns-clause-sharply c = fails_within

pub returns-clause-few : goal.returns-clause-few
returns-clause-few c = fails_few

pub returns-clause-one_more : goal.returns-clause-one_more
returns-clause-one_more c = one_more

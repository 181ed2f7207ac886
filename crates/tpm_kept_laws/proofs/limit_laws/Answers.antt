use Rattle.tpm_kept_laws.proofs.Limits.{restarts_at_limit, adds_below_limit}
use Rattle.tpm_kept_laws.proofs.limit_laws.Goals as goal

pub returns-clause-restarts : goal.returns-clause-restarts
returns-clause-restarts c = restarts_at_limit

pub returns-clause-adds : goal.returns-clause-adds
returns-clause-adds c = adds_below_limit

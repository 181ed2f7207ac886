use Rattle.tpm_step.proofs.history.Following.{run_follows, told_runs}
use Rattle.tpm_step.proofs.history.run_history_laws.Goals as goal

pub returns-clause-follows : goal.returns-clause-follows
returns-clause-follows c start = run_follows c.F.FnMut

pub returns-clause-runs : goal.returns-clause-runs
returns-clause-runs c start = told_runs c.F.FnMut

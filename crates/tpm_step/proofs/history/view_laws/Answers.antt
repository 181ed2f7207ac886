use Rattle.tpm_step.proofs.history.Views.{recorded_views, views_tell}
use Rattle.tpm_step.proofs.history.view_laws.Goals as goal

pub returns-clause-tell : goal.returns-clause-tell
returns-clause-tell c = views_tell

pub returns-clause-recorded : goal.returns-clause-recorded
returns-clause-recorded c = recorded_views

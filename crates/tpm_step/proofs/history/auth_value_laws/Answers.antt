use Rattle.tpm_step.proofs.history.DeviceAuthValues.{others_have_none}
use Rattle.tpm_step.proofs.history.auth_value_laws.Goals as goal

pub returns-clause-others : goal.returns-clause-others
returns-clause-others c = others_have_none

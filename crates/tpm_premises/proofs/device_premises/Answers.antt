use Rattle.tpm_premises.proofs.Devices.{are_two_devices, are_two_secrets, are_two_sealed}
use Rattle.tpm_premises.proofs.device_premises.Goals as goal

pub returns-clause-alike : goal.returns-clause-alike
returns-clause-alike c = are_two_devices

pub returns-clause-secrets : goal.returns-clause-secrets
returns-clause-secrets c = are_two_secrets

pub returns-clause-sealed : goal.returns-clause-sealed
returns-clause-sealed c = are_two_sealed

use Rattle.tpm_secrecy.proofs.AnyDevice.{sealed_data_need_digest}
use Rattle.tpm_secrecy.proofs.any_device_laws.Goals as goal

pub returns : goal.returns
returns c = sealed_data_need_digest

use Rattle.tpm_completion.proofs.DeviceFirst.{device_first}
use Rattle.tpm_completion.proofs.laws.device_first.Goals as goal

pub returns : goal.returns
returns c = device_first

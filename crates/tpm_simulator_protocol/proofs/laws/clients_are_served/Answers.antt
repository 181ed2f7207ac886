use Rattle.tpm_simulator_protocol.proofs.Serving.{clients_are_served}
use Rattle.tpm_simulator_protocol.proofs.laws.clients_are_served.Goals as goal

pub returns : goal.returns
returns c = clients_are_served
